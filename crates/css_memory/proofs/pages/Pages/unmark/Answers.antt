use Rattle.std.proofs.Common.{◌≡◌, ℕ, ◌+◌, ◌*◌, ◌≤◌, ◌<◌, ◌++◌, List, length, slice_index, ap, sym, subst, ◌∙◌, arith}
use Rattle.std.specs.Vec.{with_items}
use Rattle.std.proofs.lemmas.List.{with_items_is}
use Rattle.css_record.specs.Windows.{window}
use Rattle.css_memory.specs.Pages.{bytes_on, RowsEnd, AreMarked}
use Rattle.css_memory.proofs.Marks.{enough, marked_within, marked_less}
use Rattle.css_memory.proofs.pages.Pages.unmark.Goals as goal

pub remove_window-requires-clause-within : goal.remove_window-requires-clause-within
remove_window-requires-clause-within c =
    let p = c.args.part in
    let is = c.deref_mut.ensures.value ∙ c.self.view_is in
    let given = c.requires.marked in
    subst (λ (xs : List ℕ). RowsEnd (4096 * length xs) p.rows p.base p.width p.stride) (sym is) (marked_within c.args.self.now given.0 (window p) given.1 given.2).1

pub remove_window-requires-clause-some : goal.remove_window-requires-clause-some
remove_window-requires-clause-some c =
    let given = c.requires.marked in
    (marked_within c.args.self.now given.0 (window c.args.part) given.1 given.2).0.width

pub remove_window-requires-clause-enough : goal.remove_window-requires-clause-enough
remove_window-requires-clause-enough c =
    let w = window c.args.part in
    let is = c.deref_mut.ensures.value ∙ c.self.view_is in
    let given = c.requires.marked in
    subst (λ (xs : List ℕ). (page : ℕ) → page < length xs → bytes_on page w ≤ slice_index xs page) (sym is)
    (enough c.args.self.now given.0 w given.1 given.2)

pub returns-clause-others : goal.returns-clause-others
returns-clause-others c = λ before after marked.
    let w = window c.args.part in
    let is = c.deref_mut.ensures.value ∙ c.self.view_is in
    let new = c.remove_window.new.counts in
    let kept : (with_items c.self.inside.counts new).items ≡ new = with_items_is c.self.inside.counts new (omega (arith, c.remove_window.auto.counts, c.deref_mut.ensures.len)) in
    let same : length new ≡ length c.args.self.now = omega (arith, c.remove_window.auto.counts, ap length is) in
    let shrunk : (page : ℕ) → page < length c.args.self.now → slice_index new page + bytes_on page w ≡ slice_index c.args.self.now page =
    subst (λ (xs : List ℕ). (page : ℕ) → page < length xs → slice_index new page + bytes_on page w ≡ slice_index xs page) is c.remove_window.ensures in
    subst (λ (xs : List ℕ). AreMarked xs (before ++ after)) (sym kept)
    (marked_less c.args.self.now new before w after marked same shrunk)
