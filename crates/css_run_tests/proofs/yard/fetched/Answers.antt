use Rattle.css_run_tests.proofs.Yards.{first_made, second_made, used_has}
use Rattle.css_run_tests.proofs.yard.fetched.Goals as goal

pub fetch-requires-clause-may : goal.fetch-requires-clause-may
fetch-requires-clause-may c = second_made c.in_ok-yard.yard (c.in_ok-yard.ensures {u = tt})

pub fetch-requires-2-clause-may : goal.fetch-requires-2-clause-may
fetch-requires-2-clause-may c =
    first_made c.fetch.new.self (used_has c.in_ok-yard.yard c.fetch.new.self (c.in_ok-yard.ensures {u = tt}) c.fetch.ensures.kept c.in_ok-second.ensures.as_it_was)
