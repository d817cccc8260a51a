use Rattle.std.proofs.Common.{◌≡◌, ◌<◌, ◌≤◌, ℕ, Some, slice_get}
use Rattle.css_board.specs.declared.cell.Cell.{Cell}
use Rattle.css_board.specs.Cells.{IsFinishedCell}
use Rattle.css_board.proofs.cell.front_from.Given as goal

abbrev pub invariant-loop-k : goal.invariant-loop-k
invariant-loop-k l = (j : ℕ) (c : Cell) → l.from ≤ j → j < l.k → slice_get l.cells j ≡ Some c → IsFinishedCell l.history c
