use Rattle.std.proofs.Common.{◌≡◌, ◌++◌, drop}
use Rattle.css_task.specs.Cells.{before}
use Rattle.css_task.specs.Placing.{uses_of}
use Rattle.css_task.specs.GivenBytes.{left_bytes}
use Rattle.css_task.proofs.room.outs_of.Given as goal

abbrev pub invariant-loop-placed : goal.invariant-loop-placed
invariant-loop-placed l =
    l.outs.items ++ left_bytes (uses_of (drop l.placed-index l.all)) (drop (before (uses_of l.all) l.placed-index) l.bytes) ≡ left_bytes (uses_of l.all) l.bytes
