use Rattle.std.proofs.Common.{◌-◌}
use Rattle.css_objects.proofs.Searches.{Halving}
use Rattle.css_objects.proofs.ordered.Ordered.last_below.Given as goal

abbrev pub invariant-loop-low : goal.invariant-loop-low
invariant-loop-low g l = Halving l.self l.end l.fn.steps l.steps l.low l.high l.found

abbrev pub decreases-loop-low : goal.decreases-loop-low
decreases-loop-low g l = l.high - l.low
