use Rattle.css_run_tests.proofs.Yards.{second_may, second_has}
use Rattle.css_run_tests.proofs.yard.two.Goals as goal

pub submit-requires-clause-may : goal.submit-requires-clause-may
submit-requires-clause-may c =
    second_may c.in_ok-yard.yard c.in_ok-call.field-0 c.in_ok-input.input c.in_ok-input.given.items (c.in_ok-yard.ensures {u = tt}) (c.in_ok-call.ensures {u = tt}) (c.in_ok-input.ensures {u = tt})

pub returns : goal.returns
returns c =
    second_has c.in_ok-yard.yard c.submit.new.self c.in_ok-call.field-0 c.in_ok-input.input c.in_ok-input.given.items (c.in_ok-yard.ensures {u = tt}) (c.in_ok-call.ensures {u = tt})
    c.submit.ensures.kept c.in_ok-submit.ensures.submitted
