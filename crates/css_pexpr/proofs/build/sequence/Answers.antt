use Rattle.std.proofs.Common.{◌≡◌, Some, None, refl, sym, ap, ◌∙◌}
use Rattle.css_tree.specs.Syntax as spec
use Rattle.css_tree.specs.Shapes.{expression, type_name}
use Rattle.css_pexpr.specs.Shapes.{node, two}
use Rattle.css_pexpr.proofs.Families.{no_node_two, some_node_two}
use Rattle.css_pexpr.proofs.build.sequence.Goals as goal

pub returns-in_default : goal.returns-in_default
returns-in_default c = no_node_two c.args.most c.in_ok-inner.field-0 two (spec.Comma c.args.line) (node c.args.left) (node c.args.right) (λ x y. refl) c.in_ok-inner.ensures c.in_default.is

pub returns : goal.returns
returns c = some_node_two c.args.most c.in_ok-inner.field-0 two (spec.Comma c.args.line) (node c.args.left) (node c.args.right) c.in-Some.inner (λ x y. refl) c.in_ok-inner.ensures c.in-Some.is
