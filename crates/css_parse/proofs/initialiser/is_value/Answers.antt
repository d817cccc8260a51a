use Rattle.std.proofs.Common.{refl, ap}
use Rattle.css_tree.specs.Shapes.{expression, initialiser}
use Rattle.css_parse.proofs.initialiser.is_value.Goals as goal

pub returns-in-Value : goal.returns-in-Value
returns-in-Value c = (λ t. (expression c.in-Value.field-0, ap initialiser c.in-Value.is), λ x. refl)
