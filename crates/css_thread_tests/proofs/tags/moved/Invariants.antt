use Rattle.std.proofs.Common.{◌≡◌, length}
use Rattle.css_tags.specs.Groups.{left, plan_of}
use Rattle.css_thread_tests.proofs.tags.moved.Given as goal

abbrev pub invariant-loop-pieces : goal.invariant-loop-pieces
invariant-loop-pieces l = plan_of l.group ≡ plan_of l.initial.group

abbrev pub decreases-loop-pieces : goal.decreases-loop-pieces
decreases-loop-pieces l = length (left l.group)
