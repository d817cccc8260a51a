-- What holds of expressions.
use Rattle.std.proofs.Common.{◌≡◌, ℕ, List}
use Rattle.css_base.specs.Tokens.{Lexeme}
use Rattle.css_tree.specs.declared.scope.Scope.{Scope}
use Rattle.css_tree.specs.Syntax.{Expression}
use Rattle.css_tree.specs.Expressions.{SpellsExpression}
use Rattle.css_pexpr.proofs.Longest.{one_tree}

-- Tokens spell at most one expression.
pub one_expression : (scope : Scope) (level : ℕ) (ts : List Lexeme) {e other : Expression} → SpellsExpression scope level ts e → SpellsExpression scope level ts other → e ≡ other
one_expression scope level ts {e} {other} a b = one_tree scope level level ts e other a b
