use Rattle.css_base.specs.Tokens.{lexemes}
use Rattle.css_tree.specs.Shapes.{stars}
use Rattle.css_parse.proofs.Exits.{passed}
use Rattle.css_parse.proofs.NoDeclaration.{no_head}
use Rattle.css_parse.proofs.declaration.read_head.Goals as goal

pub returns-in_err-name-clause-not_spelled : goal.returns-in_err-name-clause-not_spelled
returns-in_err-name-clause-not_spelled c = λ why all name rest r.
    no_head (lexemes c.args.tokens.now) (stars c.in_ok-stars.stars.items) all c.in_ok-stars.ensures.ok
    (c.in_err-name.ensures.not_spelled (passed c.from_residual-in_err-name.result c.in_err-name.field-0.0 c.from_residual-in_err-name.ensures.1 why)) r
