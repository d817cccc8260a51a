use Rattle.css_run_tests.proofs.Yards.{both_made}
use Rattle.css_run_tests.proofs.yard.settled.Goals as goal

pub settle-requires-clause-may : goal.settle-requires-clause-may
settle-requires-clause-may c = both_made c.in_ok-yard.yard (c.in_ok-yard.ensures {u = tt})
