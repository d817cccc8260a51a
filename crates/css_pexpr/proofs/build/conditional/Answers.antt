use Rattle.std.proofs.Common.{◌≡◌, Some, None, refl, sym, ap, ◌∙◌}
use Rattle.css_tree.specs.Syntax as spec
use Rattle.css_tree.specs.Shapes.{expression, type_name}
use Rattle.css_pexpr.specs.Shapes.{node, three}
use Rattle.css_pexpr.proofs.Families.{no_node_three, some_node_three}
use Rattle.css_pexpr.proofs.build.conditional.Goals as goal

pub returns-in_default : goal.returns-in_default
returns-in_default c = no_node_three c.args.most c.in_ok-inner.field-0 three (spec.Conditional c.args.line) (node c.args.condition) (node c.args.first) (node c.args.second) (λ x y z. refl) c.in_ok-inner.ensures c.in_default.is

pub returns : goal.returns
returns c = some_node_three c.args.most c.in_ok-inner.field-0 three (spec.Conditional c.args.line) (node c.args.condition) (node c.args.first) (node c.args.second) c.in-Some.inner (λ x y z. refl) c.in_ok-inner.ensures c.in-Some.is
