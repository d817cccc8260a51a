use Rattle.css_base.specs.Tokens.{lexemes}
use Rattle.css_parse.proofs.Exits.{passed}
use Rattle.css_parse.proofs.NoDeclaration.{no_value, no_close}
use Rattle.css_parse.proofs.expression.optional.Goals as goal

pub returns-in_err-value-clause-not_spelled : goal.returns-in_err-value-clause-not_spelled
returns-in_err-value-clause-not_spelled c = λ why value rest r.
    no_value c.args.scope c.args.level c.args.close.now c.args.levels (lexemes c.args.tokens.now) value rest c.in_default.ensures.none
    (c.in_err-value.ensures.not_spelled (passed c.from_residual.result c.in_err-value.field-0.0 c.from_residual.ensures.1 why)) r

pub returns-in_default-after_mark-clause-not_spelled : goal.returns-in_default-after_mark-clause-not_spelled
returns-in_default-after_mark-clause-not_spelled c = λ why value rest r.
    no_close c.args.scope c.args.level c.args.close.now c.args.levels (lexemes c.args.tokens.now) value rest c.in_default.ensures.none c.in_ok-value.ensures.ok c.in_default-after_mark.ensures.none r
