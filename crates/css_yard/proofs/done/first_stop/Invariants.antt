use Rattle.std.proofs.Common.{◌≡◌, drop}
use Rattle.css_yard.specs.Kept.{first_stop as stop_in}
use Rattle.css_yard.proofs.done.first_stop.Given as goal

-- none of the tasks so far has stopped
abbrev pub invariant-loop-done : goal.invariant-loop-done
invariant-loop-done l = stop_in (drop l.done-index l.tasks) ≡ stop_in l.tasks
