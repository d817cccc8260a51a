use Rattle.std.proofs.Common.{refl, ap, ◌∙◌}
use Rattle.css_base.specs.Tokens.{kind_of, lexemes}
use Rattle.css_tree.specs.Shapes.{in_row}
use Rattle.css_parse.proofs.DirectiveWords.{kind-Directive}
use Rattle.css_parse.proofs.statement.is_directive_kind.Goals as goal

pub returns-in-Directive : goal.returns-in-Directive
returns-in-Directive c = (λ e. (in_row (lexemes c.in-Directive.field-0.items), ap kind_of c.in-Directive.is ∙ kind-Directive c.in-Directive.field-0), λ x. refl)
