use Rattle.css_pragma.specs.Readings.{name_of}
use Rattle.css_pragma.proofs.Exits.{passed}
use Rattle.css_pragma.proofs.AbsentParts.{no_block, no_sizes}
use Rattle.css_pragma.proofs.arguments.argument.Goals as goal

pub returns-in_err-name-clause-not_spelled : goal.returns-in_err-name-clause-not_spelled
returns-in_err-name-clause-not_spelled c = λ why a rest r.
    c.in_err-name.ensures.not_spelled (passed c.from_residual.result c.in_err-name.field-0.0 c.from_residual.ensures.1 why) (name_of a) r.behind r.reads_name

pub returns-in-Some-clause-not_spelled : goal.returns-in-Some-clause-not_spelled
returns-in-Some-clause-not_spelled c = λ why a rest r.
    no_block {a = a} c.in_ok-name.ensures.ok c.in-Some.ensures.found (c.block.ensures.not_spelled why) r

pub returns-in_err-dimensions-clause-not_spelled : goal.returns-in_err-dimensions-clause-not_spelled
returns-in_err-dimensions-clause-not_spelled c = λ why a rest r.
    no_sizes {a = a} c.in_ok-name.ensures.ok c.in_default.ensures.none
    (c.in_err-dimensions.ensures.not_spelled (passed c.from_residual-in_err-dimensions.result c.in_err-dimensions.field-0.0 c.from_residual-in_err-dimensions.ensures.1 why)) r
