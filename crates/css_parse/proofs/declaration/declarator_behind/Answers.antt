use Rattle.css_parse.proofs.Exits.{passed}
use Rattle.css_parse.proofs.declaration.declarator_behind.Goals as goal

pub returns-in_err-tail-clause-not_spelled : goal.returns-in_err-tail-clause-not_spelled
returns-in_err-tail-clause-not_spelled c = λ why sizes value rest r.
    c.in_err-tail.ensures.not_spelled (passed c.from_residual.result c.in_err-tail.field-0.0 c.from_residual.ensures.1 why) sizes value rest r
