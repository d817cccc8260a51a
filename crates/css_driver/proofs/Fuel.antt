-- With enough fuel a program has an ending, and only one.
use Rattle.std.proofs.Common.{◌≡◌, ℕ, ℤ, ◌+◌, Some, refl, sym, ap, ◌∙◌, arith}
use Rattle.css_base.specs.declared.ending.Ending.{Ending}
use Rattle.css_semantics.specs.Dialogue.{World, Tape, Outcome, Goes, Stops, Stopped, Tired}
use Rattle.css_semantics.specs.Flat.{FlatState, flat}
use Rattle.css_small.specs.Tree.{Program}
use Rattle.css_small.specs.Numbers.{HasNumbers}
use Rattle.css_small_code.specs.Meaning.{source}
use Rattle.css_small_code.specs.Fuel.{Extends}
use Rattle.css_driver.specs.Answer.{ending_of}

-- more fuel changes nothing where a program ends, in every world
abbrev pub MoreFuel : Type 0
MoreFuel = (w : World) (fuel more : ℕ) (p : Program) → Extends (source w fuel p) (source w (fuel + more) p)

-- in the flat world, units end a program before a fuel of one more than they are does
abbrev pub EnoughFuel : Type 0
EnoughFuel = (start : FlatState) (units : ℕ) (p : Program) (tape : Tape) → HasNumbers p → source (flat start units) (units + 1) p ≡ Stops Tired tape → ⊥

-- an outcome with an ending is that of more fuel too
settled : (o more : Outcome ℤ) (ending : Ending) → ending_of o ≡ Some ending → Extends o more → more ≡ o
settled (Goes v tape) more ending is extends = extends
settled (Stops (Stopped stop line) tape) more ending is extends = extends
settled (Stops Tired tape) more ending is extends = absurd (cc)

-- two runs of a program in one world that both end come to one outcome
pub one_outcome : MoreFuel → (w : World) (p : Program) (one other : ℕ) (ending ending' : Ending)
    → ending_of (source w one p) ≡ Some ending → ending_of (source w other p) ≡ Some ending' → source w one p ≡ source w other p
one_outcome more_fuel w p one other ending ending' is is' =
    let sums : one + other ≡ other + one = omega arith in
    let first = settled (source w one p) (source w (one + other) p) ending is (more_fuel w one other p) in
    let second = settled (source w other p) (source w (other + one) p) ending' is' (more_fuel w other one p) in
    sym first ∙ ap (λ fuel. source w fuel p) sums ∙ second

-- an outcome that the fuel doesn't end has an ending
untired : (o : Outcome ℤ) → ((tape : Tape) → o ≡ Stops Tired tape → ⊥) → (ending : Ending) × (ending_of o ≡ Some ending)
untired (Goes v tape) never = (_, refl)
untired (Stops (Stopped stop line) tape) never = (_, refl)
untired (Stops Tired tape) never = absurd (never tape refl)

-- a program has an ending in the flat world
pub source_ends : EnoughFuel → (start : FlatState) (units : ℕ) (p : Program) → HasNumbers p → (ending : Ending) × (ending_of (source (flat start units) (units + 1) p) ≡ Some ending)
source_ends enough start units p numbers = untired (source (flat start units) (units + 1) p) (λ tape. enough start units p tape numbers)
