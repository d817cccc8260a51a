-- That code has a program's dialogue.
use Rattle.std.specs.Prelude.{◌≡◌, ◌≢◌, ◌≤◌, ℕ, ℤ, List, [], ◌∷◌, Option, Some, None, slice_get}
use Rattle.css_base.specs.declared.ending.Stop.{Stop}
use Rattle.css_semantics.specs.Dialogue.{World, Tape, Outcome, Goes, Stops, Stopped, Tired}
use Rattle.css_vm.specs.Cells.{cell_of}
use Rattle.css_vm.specs.Code.{Code}
use Rattle.css_vm.specs.Machine.{target}
use Rattle.css_vm.specs.Machine as machine
use Rattle.css_vm.specs.Soundness.{Spot, IsSound}
use Rattle.css_small.specs.Tree.{Function, Program}
use Rattle.css_small_code.specs.Meaning.{source, alone}

-- A source whose end depends on a fuel, and a machine that takes so many steps, have one dialogue: the machine makes the same tape
-- and ends in the same way, exactly when the source does, goes on for ever when the source does, and is never stuck.
pub record SameDialogue {A : Type 0} (from : ℕ → Outcome ℤ) (to : ℕ → Outcome (Option A)) (give : ℤ → A) : Type 0 where
  pub finishes : (fuel : ℕ) (v : ℤ) (tape : Tape) → from fuel ≡ Goes v tape → (n : ℕ) × (to n ≡ Goes (Some (give v)) tape)
  pub stops : (fuel : ℕ) (stop : Stop) (line : ℕ) (tape : Tape) → from fuel ≡ Stops (Stopped stop line) tape → (n : ℕ) × (to n ≡ Stops (Stopped stop line) tape)
  pub goes_on : (fuel : ℕ) (tape : Tape) → from fuel ≡ Stops Tired tape → (n : ℕ) × (fuel ≤ n) × (to n ≡ Stops Tired tape)
  pub finishes_only : (n : ℕ) (a : A) (tape : Tape) → to n ≡ Goes (Some a) tape → (fuel : ℕ) × (v : ℤ) × (give v ≡ a) × (from fuel ≡ Goes v tape)
  pub stops_only : (n : ℕ) (stop : Stop) (line : ℕ) (tape : Tape) → to n ≡ Stops (Stopped stop line) tape → (fuel : ℕ) × (from fuel ≡ Stops (Stopped stop line) tape)
  pub never_stuck : (n : ℕ) (tape : Tape) → to n ≢ Goes None tape

-- The code is sound, and in every world it has the program's dialogue, for main and for each other function alone.
pub record Codes (code : Code) (p : Program) : Type 0 where
  pub sound : (plans : List (List Spot)) × IsSound code plans
  pub main : (w : World) → SameDialogue (λ fuel. source w fuel p) (target w code) (λ v. v)
  pub functions : (w : World) (k : ℕ) (f : Function) (argument line : ℕ) → slice_get p.functions k ≡ Some f
      → SameDialogue (λ fuel. alone w fuel f (argument ∷ []) line) (machine.alone w code k (argument ∷ []) line) cell_of
