-- Laws on scopes.
use Rattle.std.specs.Prelude.{◌≡◌, ℕ, ◌<◌, ◌≤◌, List, ◌++◌, All, option_map}
use Rattle.css_types.specs.Types.{CType}
use Rattle.css_types.specs.Scopes as types
use Rattle.css_scopes.specs.declared.meaning.Meaning.{Meaning}
use Rattle.css_scopes.specs.Scopes.{Binding, found, meaning_of, is_taken, closed}
use Rattle.css_scopes.specs.Shapes.{binding_as, meaning_as, scope_as}

-- A block that is closed takes away exactly what was declared in it and in the blocks inside it.
abbrev pub BlocksClose : Type 0 → Type 0
BlocksClose M =
    (depth : ℕ) (inside outside : List (Binding M)) → All (λ b. depth ≤ b.depth) inside → All (λ b. b.depth < depth) outside
    → closed depth (inside ++ outside) ≡ outside

-- what names mean here is what they mean to the static rules
pub record AreOfTypes {T : Type 0} (type_as : T → CType) (scope : List (Binding (Meaning T))) (name : List ℕ) : Type 0 where
  pub finds : types.found (scope_as type_as scope) name ≡ option_map (binding_as type_as) (found scope name)
  pub means : option_map (λ b. b.meaning) (types.found (scope_as type_as scope) name) ≡ option_map (meaning_as type_as) (meaning_of scope name)
  pub takes : (depth : ℕ) → types.is_taken (scope_as type_as scope) depth name ≡ is_taken scope depth name
