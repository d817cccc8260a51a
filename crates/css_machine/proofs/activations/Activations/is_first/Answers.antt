use Rattle.std.proofs.Common.{◌≡◌, true≢false, ◌==◌, ℕ, zero, suc, Bool, vec_len, IsTrue, refl, length, reverse, ap, sym, ◌∙◌, arith}
use Rattle.std.proofs.Math.Dec.{eqb-suc-zero}
use Rattle.std.proofs.lemmas.List.{length-reverse}
use Rattle.css_machine.specs.States.{depth}
use Rattle.css_machine.proofs.Callers.{callers_count}
use Rattle.css_machine.proofs.activations.Activations.is_first.Goals as goal

as_zero : (b : Bool) (n d : ℕ) → b ≡ (n == 0) → d ≡ n → (IsTrue b → d ≡ 0) × (d ≡ 0 → IsTrue b)
as_zero b zero d e f = (λ h. f, λ h. rw e refl)
as_zero b (suc n) d e f = (λ h. absurd (true≢false (sym h ∙ e ∙ eqb-suc-zero n)), λ h. absurd (omega arith))

pub returns : goal.returns
returns c =
    let items = c.self.inside.callers.items in
    let count : depth c.args.self.now ≡ length items = ap depth (sym c.self.view_is) ∙ callers_count (reverse items) c.self.inside.stack.below ∙ length-reverse items in
    as_zero c.is_empty.result (vec_len c.self.inside.callers) (depth c.args.self.now) c.is_empty.ensures (omega (arith, count, c.self.inside.callers.ok.0))
