use Rattle.std.proofs.Common.{Err, refl, ap}
use Rattle.css_parse.proofs.parameters.optional_name.Goals as goal

pub returns-in-Err-NotSpelled-clause-ok : goal.returns-in-Err-NotSpelled-clause-ok
returns-in-Err-NotSpelled-clause-ok c = (refl, λ name behind r. c.in-Err-NotSpelled.ensures.not_spelled (ap Err c.in-Err-NotSpelled.field-0-is) name behind r)
