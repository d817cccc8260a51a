use Rattle.css_pragma.proofs.Exits.{passed}
use Rattle.css_pragma.proofs.AbsentParts.{no_second, no_third}
use Rattle.css_pragma.proofs.arguments.block.Goals as goal

pub returns-in_err-rows-clause-not_spelled : goal.returns-in_err-rows-clause-not_spelled
returns-in_err-rows-clause-not_spelled c = λ why rows width stride rest r.
    c.in_err-rows.ensures.not_spelled (passed c.from_residual.result c.in_err-rows.field-0.0 c.from_residual.ensures.1 why) rows r.second r.reads_rows

pub returns-in_err-width-clause-not_spelled : goal.returns-in_err-width-clause-not_spelled
returns-in_err-width-clause-not_spelled c = λ why rows width stride rest r.
    no_second c.in_ok-rows.ensures.ok (c.in_err-width.ensures.not_spelled (passed c.from_residual-in_err-width.result c.in_err-width.field-0.0 c.from_residual-in_err-width.ensures.1 why)) r

pub returns-in_err-stride-clause-not_spelled : goal.returns-in_err-stride-clause-not_spelled
returns-in_err-stride-clause-not_spelled c = λ why rows width stride rest r.
    no_third c.in_ok-rows.ensures.ok c.in_ok-width.ensures.ok
    (c.in_err-stride.ensures.not_spelled (passed c.from_residual-in_err-stride.result c.in_err-stride.field-0.0 c.from_residual-in_err-stride.ensures.1 why)) r
