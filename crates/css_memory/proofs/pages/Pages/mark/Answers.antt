use Rattle.std.proofs.Common.{◌≡◌, ℕ, ◌+◌, ◌≤◌, ◌<◌, ◌++◌, ◌∷◌, List, length, slice_index, ap, sym, subst, ◌∙◌, arith}
use Rattle.std.specs.Vec.{with_items}
use Rattle.std.proofs.lemmas.List.{with_items_is}
use Rattle.css_record.specs.Windows.{window}
use Rattle.css_memory.specs.Pages.{bytes_on, AreMarked}
use Rattle.css_memory.proofs.Marks.{fits, marked_more}
use Rattle.css_memory.proofs.pages.Pages.mark.Goals as goal

pub add_window-requires-clause-fits : goal.add_window-requires-clause-fits
add_window-requires-clause-fits c =
    let w = window c.args.part in
    let is = c.deref_mut.ensures.value ∙ c.self.view_is in
    let given = c.requires.apart in
    subst (λ (xs : List ℕ). (page : ℕ) → page < length xs → slice_index xs page + bytes_on page w ≤ 4096) (sym is)
    (fits c.args.self.now given.0 w given.1 given.2 c.requires.within)

pub returns-clause-marked : goal.returns-clause-marked
returns-clause-marked c = λ before after marked clear.
    let w = window c.args.part in
    let is = c.deref_mut.ensures.value ∙ c.self.view_is in
    let new = c.add_window.new.counts in
    let kept : (with_items c.self.inside.counts new).items ≡ new = with_items_is c.self.inside.counts new (omega (arith, c.add_window.auto.counts, c.deref_mut.ensures.len)) in
    let same : length new ≡ length c.args.self.now = omega (arith, c.add_window.auto.counts, ap length is) in
    let grown : (page : ℕ) → page < length c.args.self.now → slice_index new page ≡ slice_index c.args.self.now page + bytes_on page w =
    subst (λ (xs : List ℕ). (page : ℕ) → page < length xs → slice_index new page ≡ slice_index xs page + bytes_on page w) is c.add_window.ensures in
    subst (λ (xs : List ℕ). AreMarked xs (before ++ w ∷ after)) (sym kept)
    (marked_more c.args.self.now new before w after marked clear c.requires.within same grown)
