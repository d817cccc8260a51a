use Rattle.css_run_tests.specs.Yards.{HasNone}
use Rattle.css_run_tests.proofs.yard.last_made.Given as goal

abbrev pub invariant-loop-task : goal.invariant-loop-task
invariant-loop-task l = HasNone l.yard
