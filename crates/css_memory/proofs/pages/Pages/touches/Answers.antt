use Rattle.std.proofs.Common.{ℕ, ◌+◌, ◌-◌, ◌/◌, List, refl, sym, subst, ◌∙◌, arith}
use Rattle.css_memory.specs.Pages.{touches, AreMarked}
use Rattle.css_memory.proofs.Marks.{does_touch, touches_none}
use Rattle.css_memory.proofs.Replies.{same_by}
use Rattle.css_memory.proofs.pages.Pages.touches.Goals as goal

pub returns : goal.returns
returns c = λ marked are.
    let address = c.args.address in
    let n = c.args.length in
    let pages = c.deref.result.now in
    let kept = subst (λ (xs : List ℕ). AreMarked xs marked) (sym (c.deref.ensures.value ∙ c.self.view_is)) are in
    same_by c.has_some.result (touches marked address n)
    (λ on.
    let w = c.has_some.ensures.some on in
    does_touch pages marked kept address n (address / 4096) ((address + n - 1) / 4096) (omega arith) refl refl w.0 w.1 w.2 w.3 w.4)
    (λ off. touches_none pages marked kept address n (address / 4096) ((address + n - 1) / 4096) (omega arith) refl refl (c.has_some.ensures.none off))
