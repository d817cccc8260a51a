use Rattle.css_base.specs.Tokens.{lexemes}
use Rattle.css_parse.proofs.Exits.{passed}
use Rattle.css_parse.proofs.NoDeclaration.{no_initial}
use Rattle.css_parse.proofs.initialiser.initial.Goals as goal

pub returns-in_err-value-clause-not_spelled : goal.returns-in_err-value-clause-not_spelled
returns-in_err-value-clause-not_spelled c = λ why value rest r.
    no_initial c.args.scope c.args.levels (lexemes c.args.tokens.now) (lexemes c.in-Some.behind.now) value rest c.in-Some.ensures.found
    (c.in_err-value.ensures.not_spelled (passed c.from_residual.result c.in_err-value.field-0.0 c.from_residual.ensures.1 why)) r
