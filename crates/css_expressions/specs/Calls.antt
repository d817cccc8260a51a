-- Calls of the library, by their arguments.
use Rattle.std.specs.Prelude.{◌≡◌, ℕ, Bool, true, false, List, [], ◌∷◌, Some}
use Rattle.css_tree.specs.Syntax.{Expressions}
use Rattle.css_types.specs.Scopes.{Scope, Library}
use Rattle.css_types.specs.Judged.{Judged}
use Rattle.css_types.specs.Operands.{Operand}
use Rattle.css_types.specs.Expressions.{library_by, takes_literal, literal_of, values_in, values_behind}

abbrev pub library_called : Scope → (line : ℕ) → Library → Expressions → Judged Operand
library_called scope line f arguments =
    library_by scope line f (takes_literal f) (literal_of arguments) (values_in scope line arguments) (values_behind scope line arguments)

-- a literal stands first, before these others
pub record IsLiteralFirst (arguments : Expressions) (bytes : List ℕ) (others : Expressions) : Type 0 where
  pub is : literal_of arguments ≡ Some bytes
  pub behind : (scope : Scope) (line : ℕ) → values_behind scope line arguments ≡ values_in scope line others

-- a list, or what stands behind its first
abbrev pub left_by : {A : Type 0} → (behind_first : Bool) → List A → List A
left_by false all = all
left_by true [] = []
left_by true (a ∷ all) = all
