use Rattle.std.proofs.Common.{[], ◌∷◌, refl, sym, subst, ◌∙◌}
use Rattle.css_semantics.specs.Tasks.{Window}
use Rattle.css_memory.specs.Pages.{AreMarked}
use Rattle.css_memory_tests.proofs.windows.touched.Goals as goal

pub mark_pages-requires-2-clause-may : goal.mark_pages-requires-2-clause-may
mark_pages-requires-2-clause-may c =
    let marked = c.mark_pages.ensures.more refl [] [] c.in_ok-memory.ensures.marked tt in
    ([], [], subst (λ (w : Window). AreMarked c.mark_pages.new.self.pages (w ∷ [])) (c.plain.ensures.value ∙ sym c.plain-2.ensures.value) marked)
