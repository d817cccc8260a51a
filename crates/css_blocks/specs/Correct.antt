-- That code has the dialogue of pieces.
use Rattle.std.specs.Prelude.{◌≡◌, ℕ, ◌≤◌, List}
use Rattle.css_base.specs.declared.ending.Stop.{Stop}
use Rattle.css_semantics.specs.Dialogue.{World, Tape, Outcome, Goes, Stops, Stopped, Tired}
use Rattle.css_isa.specs.Code.{Code}
use Rattle.css_isa.specs.Steps.{Begin}
use Rattle.css_isa.specs.Machine as machine
use Rattle.css_isa.specs.Machine.{exec}
use Rattle.css_blocks.specs.Layout.{Program}
use Rattle.css_blocks.specs.Programs.{run_of, source, alone}

-- A dialogue whose end depends on a fuel, and a machine that takes so many steps, make one tape and end in the same way, the one exactly
-- when the other does, and go on for ever together.
pub record SameDialogue {A : Type 0} (from to : ℕ → Outcome A) : Type 0 where
  pub ends : (fuel : ℕ) (a : A) (tape : Tape) → from fuel ≡ Goes a tape → (n : ℕ) × (to n ≡ Goes a tape)
  pub stops : (fuel : ℕ) (stop : Stop) (line : ℕ) (tape : Tape) → from fuel ≡ Stops (Stopped stop line) tape → (n : ℕ) × (to n ≡ Stops (Stopped stop line) tape)
  pub goes_on : (fuel : ℕ) (tape : Tape) → from fuel ≡ Stops Tired tape → (n : ℕ) × (fuel ≤ n) × (to n ≡ Stops Tired tape)
  pub ends_only : (n : ℕ) (a : A) (tape : Tape) → to n ≡ Goes a tape → (fuel : ℕ) × (from fuel ≡ Goes a tape)
  pub stops_only : (n : ℕ) (stop : Stop) (line : ℕ) (tape : Tape) → to n ≡ Stops (Stopped stop line) tape → (fuel : ℕ) × (from fuel ≡ Stops (Stopped stop line) tape)

-- In every world: each function from its entry on, main as a whole, and each function alone as a task's body.
pub record Behaves (p : Program) (code : Code) : Type 0 where
  pub each : (w : World) (k : ℕ) (arguments : List ℕ) (line : ℕ) (tape : Tape) → SameDialogue (run_of w p k arguments line tape) (λ n. exec w code n (Begin k arguments line) tape)
  pub main : (w : World) → SameDialogue (source w p) (machine.target w code)
  pub bodies : (w : World) (k : ℕ) (arguments : List ℕ) (line : ℕ) → SameDialogue (alone w p k arguments line) (machine.alone w code k arguments line)
