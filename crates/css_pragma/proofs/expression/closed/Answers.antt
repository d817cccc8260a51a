use Rattle.css_pragma.proofs.Exits.{passed}
use Rattle.css_pragma.proofs.AbsentParts.{no_closed, no_close}
use Rattle.css_pragma.proofs.expression.closed.Goals as goal

pub returns-in_default-clause-not_spelled : goal.returns-in_default-clause-not_spelled
returns-in_default-clause-not_spelled c = λ why e rest r. no_close c.in_ok-value.ensures.ok c.in_default.ensures.none r

pub returns-in_err-value-clause-not_spelled : goal.returns-in_err-value-clause-not_spelled
returns-in_err-value-clause-not_spelled c = λ why e rest r.
    no_closed (c.in_err-value.ensures.not_spelled (passed c.from_residual.result c.in_err-value.field-0.0 c.from_residual.ensures.1 why)) r
