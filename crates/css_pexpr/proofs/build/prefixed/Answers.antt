use Rattle.std.proofs.Common.{◌≡◌, Some, None, refl, sym, ap, ◌∙◌}
use Rattle.css_tree.specs.Syntax as spec
use Rattle.css_tree.specs.Shapes.{expression, type_name}
use Rattle.css_pexpr.specs.Shapes.{node}
use Rattle.css_pexpr.proofs.Families.{no_node, some_node}
use Rattle.css_tree.specs.Syntax.{Expression}
use Rattle.css_tree.specs.Heights.{height}
use Rattle.css_pexpr.specs.declared.prefix.Prefix.{Prefix}
use Rattle.css_pexpr.specs.declared.prefix.Prefix.TheVariants as prefixes
use Rattle.css_pexpr.specs.Frames.{prefixed}
use Rattle.std.proofs.Common.{ℕ, ◌+◌}
use Rattle.css_pexpr.proofs.build.prefixed.Goals as goal
use Rattle.css_pexpr.proofs.build.prefixed.Goals.{in-Increment, in-Decrement, in-Sizeof, in-Operator}

one_more : (op : Prefix) (line : ℕ) (x : Expression) → height (prefixed op line x) ≡ 1 + height x
one_more prefixes.Increment line x = refl
one_more prefixes.Decrement line x = refl
one_more prefixes.Sizeof line x = refl
one_more (prefixes.Operator op) line x = refl

pub returns-in_default : goal.returns-in_default
returns-in_default c = no_node c.args.most c.in_ok-inner.field-0 (λ s. expression s.child.value) (prefixed c.args.operator c.args.line) (node c.args.operand) (one_more c.args.operator c.args.line) c.in_ok-inner.ensures c.in_default.is

pub returns : goal.returns
returns c =
    let whole = some_node c.args.most c.in_ok-inner.field-0 (λ s. expression s.child.value) (prefixed c.args.operator c.args.line) (node c.args.operand) c.in-Some.inner (one_more c.args.operator c.args.line) c.in_ok-inner.ensures c.in-Some.is in
    elim c.match-operator.branch [
      | in-Increment w ↦ ap (λ t. Some (expression t)) w.tree-is ∙ ap (λ o. Some (prefixed o c.args.line (expression c.in-Some.inner.child.value))) (sym w.in-Increment.is) ∙ whole
      | in-Decrement w ↦ ap (λ t. Some (expression t)) w.tree-is ∙ ap (λ o. Some (prefixed o c.args.line (expression c.in-Some.inner.child.value))) (sym w.in-Decrement.is) ∙ whole
      | in-Sizeof w ↦ ap (λ t. Some (expression t)) w.tree-is ∙ ap (λ o. Some (prefixed o c.args.line (expression c.in-Some.inner.child.value))) (sym w.in-Sizeof.is) ∙ whole
      | in-Operator w ↦ ap (λ t. Some (expression t)) w.tree-is ∙ ap (λ o. Some (prefixed o c.args.line (expression c.in-Some.inner.child.value))) (sym w.in-Operator.is) ∙ whole
    ]
