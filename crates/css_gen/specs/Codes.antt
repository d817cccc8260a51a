-- That code means what a program of the core does.
use Rattle.std.specs.Prelude.{◌≡◌, ℕ, ℤ, List, map, length, Some, slice_get}
use Rattle.css_semantics.specs.Dialogue.{World, Outcome, Goes, then_do}
use Rattle.css_core.specs.Core.{Function, Program}
use Rattle.css_core.specs.Functions as core
use Rattle.css_isa.specs.Code.{Code}
use Rattle.css_isa.specs.Cells.{cell_of}
use Rattle.css_isa.specs.Machine as machine
use Rattle.css_blocks.specs.Correct.{SameDialogue}

-- In every world the machine over the code makes the tape of the program and ends in the same way, the one exactly when the other does,
-- and never for want of a cell: main, with its value, and each function alone as a task's body, with the cell of its value.
pub record Codes (p : Program) (code : Code) : Type 0 where
  pub main : (w : World) → SameDialogue (λ n. then_do (core.source w n p) (λ v t. Goes (Some v) t)) (machine.target w code)
  pub bodies : (w : World) (k : ℕ) (f : Function) → slice_get p.functions k ≡ Some f → (values : List ℤ) → length values ≡ length f.parameters → (line : ℕ)
      → SameDialogue (λ n. then_do (core.alone w n p f values line) (λ v t. Goes (Some (cell_of v)) t)) (machine.alone w code k (map cell_of values) line)
