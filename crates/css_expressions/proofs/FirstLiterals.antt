-- Literals that stand first.
use Rattle.std.proofs.Common.{◌≡◌, ℕ, List, true, false, Bool, Option, Some, None, ap, refl, ◌∙◌}
use Rattle.css_tree.specs.Syntax.{Expressions}
use Rattle.css_types.specs.Scopes.{Scope, Library}
use Rattle.css_types.specs.Judged.{Judged, after}
use Rattle.css_types.specs.Operands.{Operand}
use Rattle.css_types.specs.Formats.{library_call}
use Rattle.css_types.specs.Expressions.{library_by, takes_literal, literal_of, values_in, values_behind}
use Rattle.css_expressions.specs.Calls.{library_called, IsLiteralFirst}

none_taken : (scope : Scope) (line : ℕ) (f : Library) (literal : Option (List ℕ)) (all behind : Judged (List Operand)) → library_by scope line f false literal all behind ≡ after all (library_call line f None)
none_taken scope line f None all behind = refl
none_taken scope line f (Some bytes) all behind = refl

none_there : (scope : Scope) (line : ℕ) (f : Library) (takes : Bool) (all behind : Judged (List Operand)) → library_by scope line f takes None all behind ≡ after all (library_call line f None)
none_there scope line f true all behind = refl
none_there scope line f false all behind = refl

module _ (f : Library) (arguments : Expressions) (scope : Scope) (line : ℕ) where
  -- the function takes none
  pub takes_none : takes_literal f ≡ false → library_called scope line f arguments ≡ after (values_in scope line arguments) (library_call line f None)
  takes_none none =
      ap (λ t. library_by scope line f t (literal_of arguments) (values_in scope line arguments) (values_behind scope line arguments)) none
      ∙ none_taken scope line f (literal_of arguments) (values_in scope line arguments) (values_behind scope line arguments)

  -- none stands there
  pub has_none : literal_of arguments ≡ None → library_called scope line f arguments ≡ after (values_in scope line arguments) (library_call line f None)
  has_none none =
      ap (λ l. library_by scope line f (takes_literal f) l (values_in scope line arguments) (values_behind scope line arguments)) none
      ∙ none_there scope line f (takes_literal f) (values_in scope line arguments) (values_behind scope line arguments)

  pub has_one : (bytes : List ℕ) (others : Expressions) → takes_literal f ≡ true → IsLiteralFirst arguments bytes others
      → library_called scope line f arguments ≡ after (values_in scope line others) (library_call line f (Some bytes))
  has_one bytes others takes first =
      ap (λ t. library_by scope line f t (literal_of arguments) (values_in scope line arguments) (values_behind scope line arguments)) takes
      ∙ ap (λ l. library_by scope line f true l (values_in scope line arguments) (values_behind scope line arguments)) first.is
      ∙ ap (λ b. after b (library_call line f (Some bytes))) (first.behind scope line)
