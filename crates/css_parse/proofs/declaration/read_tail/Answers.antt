use Rattle.css_base.specs.Tokens.{lexemes}
use Rattle.css_tree.specs.Shapes.{dimensions}
use Rattle.css_parse.proofs.Exits.{passed}
use Rattle.css_parse.proofs.NoDeclaration.{no_tail}
use Rattle.css_parse.proofs.declaration.read_tail.Goals as goal

pub returns-in_err-dimensions-clause-not_spelled : goal.returns-in_err-dimensions-clause-not_spelled
returns-in_err-dimensions-clause-not_spelled c = λ why sizes value rest r.
    c.in_err-dimensions.ensures.not_spelled (passed c.from_residual.result c.in_err-dimensions.field-0.0 c.from_residual.ensures.1 why) sizes r.behind r.reads_dimensions

pub returns-in_err-initialiser-clause-not_spelled : goal.returns-in_err-initialiser-clause-not_spelled
returns-in_err-initialiser-clause-not_spelled c = λ why sizes value rest r.
    no_tail c.args.scope c.args.levels (lexemes c.args.tokens.now) (dimensions c.in_ok-dimensions.dimensions.items) sizes c.in_ok-dimensions.ensures.ok
    (c.in_err-initialiser.ensures.not_spelled (passed c.from_residual-in_err-initialiser.result c.in_err-initialiser.field-0.0 c.from_residual-in_err-initialiser.ensures.1 why)) r
