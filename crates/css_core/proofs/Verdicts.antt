-- A program's verdicts.
use Rattle.std.proofs.Common.{◌≡◌, ℕ, ◌+◌, ◌≤◌, ℤ, Some, refl, sym, ap, ◌∙◌, ⊎_elim, arith}
use Rattle.std.proofs.lemmas.Bool.{cases_lt}
use Rattle.std.proofs.lemmas.Option.{same_Some}
use Rattle.css_base.specs.declared.limits.Limits.{Limits}
use Rattle.css_semantics.specs.Dialogue.{Stopped, Tired, World, Tape, Outcome, Goes, Stops}
use Rattle.css_semantics.specs.Memory.{Memory}
use Rattle.css_semantics.specs.Verdict.{Verdict, judged_in, verdict}
use Rattle.css_semantics.specs.Flat.{FlatState}
use Rattle.css_core.specs.Core.{Program}
use Rattle.css_core.specs.Functions.{source}
use Rattle.css_semantics.specs.Fronts.{Extends}
use Rattle.css_core.proofs.MoreFuel.{extends_source}
use Rattle.css_core.proofs.TwoMeters.{apart_never_tired}
use Rattle.css_core.proofs.JudgedUnits.{main_left, task_left, judged_spends}

-- what extends an outcome that has a verdict has the same
kept : (start : Memory) (o more : Outcome ℤ) (v : Verdict) → Extends o more → verdict start o ≡ Some v → verdict start more ≡ Some v
kept start (Goes value tape) more v extends e = ap (verdict start) extends ∙ e
kept start (Stops (Stopped stop line) tape) more v extends e = ap (verdict start) extends ∙ e
kept start (Stops Tired tape) more v extends e = cc

module _ (start : Memory) (w : World) (p : Program) where
  same_up : (less more : ℕ) (v v' : Verdict) → less ≤ more → verdict start (source w less p) ≡ Some v → verdict start (source w more p) ≡ Some v' → v ≡ v'
  same_up less more v v' le e e' = same_Some v v' (sym (kept start (source w less p) (source w more p) v (extends_source w less more p le) e) ∙ e')

  pub same_verdict : (fuel other : ℕ) (v v' : Verdict) → verdict start (source w fuel p) ≡ Some v → verdict start (source w other p) ≡ Some v' → v ≡ v'
  same_verdict fuel other v v' e e' =
      ⊎_elim (λ lt. same_up fuel other v v' (omega (arith, lt)) e e') (λ le. sym (same_up other fuel v' v le e' e)) (cases_lt fuel other)

-- an outcome that isn't tired has a verdict
has_verdict : (start : Memory) (o : Outcome ℤ) → ((tape : Tape) → o ≡ Stops Tired tape → ⊥) → (v : Verdict) × (verdict start o ≡ Some v)
has_verdict start (Goes value tape) h = (_, refl)
has_verdict start (Stops (Stopped stop line) tape) h = (_, refl)
has_verdict start (Stops Tired tape) h = absurd (h tape refl)

pub judged_never_tired : (limits : Limits) (start : FlatState) (fuel : ℕ) (p : Program) (tape : Tape) → limits.main_units + limits.task_units ≤ fuel → source (judged_in limits start) fuel p ≡ Stops Tired tape → ⊥
judged_never_tired limits start fuel p tape le e =
    apart_never_tired (judged_in limits start) (main_left limits start) (task_left limits start) limits.task_units (judged_spends limits start) fuel p tape (omega (arith, le)) e

pub some_verdict : (limits : Limits) (start : FlatState) (p : Program) → (v : Verdict) × (verdict start.memory (source (judged_in limits start) (limits.main_units + limits.task_units) p) ≡ Some v)
some_verdict limits start p =
    has_verdict start.memory (source (judged_in limits start) (limits.main_units + limits.task_units) p)
    (λ tape e. judged_never_tired limits start (limits.main_units + limits.task_units) p tape (omega arith) e)
