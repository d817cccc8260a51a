use Rattle.css_base.specs.Tokens.{lexemes}
use Rattle.css_parse.proofs.Exits.{passed}
use Rattle.css_parse.proofs.NoDeclaration.{no_parameters}
use Rattle.css_parse.proofs.parameters.parameters.Goals as goal

pub returns-in_err-all-clause-not_spelled : goal.returns-in_err-all-clause-not_spelled
returns-in_err-all-clause-not_spelled c = λ why all rest r.
    no_parameters c.args.levels (lexemes c.args.tokens.now) all rest c.in_default.ensures.none c.in_default-after_void.ensures.none
    (c.in_err-all.ensures.not_spelled (passed c.from_residual.result c.in_err-all.field-0.0 c.from_residual.ensures.1 why)) r
