use Rattle.css_base.specs.Tokens.{lexemes}
use Rattle.css_tree.specs.Shapes.{stars}
use Rattle.css_parse.proofs.Exits.{passed}
use Rattle.css_parse.proofs.Initials.{none_of}
use Rattle.css_parse.proofs.NoDeclaration.{no_parameter_size, specifiers_some}
use Rattle.css_parse.proofs.parameters.parameter.Goals as goal

pub returns-in_err-dimensions-clause-not_spelled : goal.returns-in_err-dimensions-clause-not_spelled
returns-in_err-dimensions-clause-not_spelled c = λ why p rest r.
    no_parameter_size (stars c.in_ok-stars.stars.items) (lexemes c.in_ok-stars.middle.now) c.in_ok-name.name (lexemes c.in_ok-name.next.now) c.in_ok-specifiers.ensures.ok c.in_ok-stars.ensures.ok c.in_ok-name.ensures.ok
    (c.in_err-dimensions.ensures.not_spelled (passed c.from_residual-in_err-dimensions.result c.in_err-dimensions.field-0.0 c.from_residual-in_err-dimensions.ensures.1 why)) r

pub returns-in_default-clause-not_spelled : goal.returns-in_default-clause-not_spelled
returns-in_default-clause-not_spelled c = λ why p rest r. specifiers_some r.reads_specifiers (none_of c.args.tokens.now c.in_default.ensures.value)
