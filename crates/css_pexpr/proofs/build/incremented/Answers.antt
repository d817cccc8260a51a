use Rattle.std.proofs.Common.{◌≡◌, Some, None, refl, sym, ap, ◌∙◌}
use Rattle.css_tree.specs.Syntax as spec
use Rattle.css_tree.specs.Shapes.{expression, type_name}
use Rattle.css_pexpr.specs.Shapes.{node}
use Rattle.css_pexpr.proofs.Families.{no_node, some_node}
use Rattle.css_pexpr.proofs.build.incremented.Goals as goal

pub returns-in_default : goal.returns-in_default
returns-in_default c = no_node c.args.most c.in_ok-inner.field-0 (λ s. expression s.child.value) (spec.PostIncrement c.args.line) (node c.args.operand) (λ x. refl) c.in_ok-inner.ensures c.in_default.is

pub returns : goal.returns
returns c = some_node c.args.most c.in_ok-inner.field-0 (λ s. expression s.child.value) (spec.PostIncrement c.args.line) (node c.args.operand) c.in-Some.inner (λ x. refl) c.in_ok-inner.ensures c.in-Some.is
