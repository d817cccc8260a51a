-- Scopes over any type of types show the static rules the same.
use Rattle.std.proofs.Common.{◌≡◌, ℕ, ◌-◌, ◌<◌, ◌≤◌, suc, Bool, true, false, ◌||◌, nat_le, List, [], ◌∷◌, ◌++◌, drop, length, All, Option, Some, None, is_some, bytes_eq, if◌then◌else◌, refl, sym, ap, ◌∙◌, arith}
use Rattle.std.specs.Option.{option_map}
use Rattle.std.proofs.lemmas.Bool.Decides.{nat_tests}
use Rattle.std.proofs.Common.{length-append}
use Rattle.std.proofs.Math.Seq.{drop-append_seam}
use Rattle.css_types.specs.Types.{CType}
use Rattle.css_types.specs.Scopes as types
use Rattle.css_scopes.specs.declared.meaning.Meaning.{Meaning}
use Rattle.css_scopes.specs.Scopes.{Binding, found, meaning_of, is_at, is_taken, is_inside, older, closed, kept, IsOver}
use Rattle.css_scopes.specs.Shapes.{meaning_as, binding_as, scope_as}
use Rattle.css_scopes.specs.Laws.{BlocksClose, AreOfTypes}

module _ {T : Type 0} (type_as : T → CType) where
  pub found-scope_as : (scope : List (Binding (Meaning T))) (name : List ℕ) → types.found (scope_as type_as scope) name ≡ option_map (binding_as type_as) (found scope name)
  found-scope_as [] name = refl
  found-scope_as (b ∷ scope) name =
      elim (bytes_eq b.name name)
      as (λ t. (if t then Some (binding_as type_as b) else types.found (scope_as type_as scope) name) ≡ option_map (binding_as type_as) (if t then Some b else found scope name))
      [ true ↦ refl | false ↦ found-scope_as scope name ]

  means : (o : Option (Binding (Meaning T))) → option_map (λ (b : types.Binding). b.meaning) (option_map (binding_as type_as) o) ≡ option_map (meaning_as type_as) (option_map (λ (b : Binding (Meaning T)). b.meaning) o)
  means None = refl
  means (Some b) = refl

  pub meaning-scope_as : (scope : List (Binding (Meaning T))) (name : List ℕ)
      → option_map (λ b. b.meaning) (types.found (scope_as type_as scope) name) ≡ option_map (meaning_as type_as) (meaning_of scope name)
  meaning-scope_as scope name = ap (option_map (λ b. b.meaning)) (found-scope_as scope name) ∙ means (found scope name)

  is_at-as : (depth : ℕ) (o : Option (Binding (Meaning T))) → types.is_at depth (option_map (binding_as type_as) o) ≡ is_at depth o
  is_at-as depth None = refl
  is_at-as depth (Some b) = refl

  pub is_taken-scope_as : (scope : List (Binding (Meaning T))) (name : List ℕ) (depth : ℕ) → types.is_taken (scope_as type_as scope) depth name ≡ is_taken scope depth name
  is_taken-scope_as scope name depth =
      ap (λ o. is_some (types.library_of name) || types.is_at depth o) (found-scope_as scope name) ∙ ap (λ t. is_some (types.library_of name) || t) (is_at-as depth (found scope name))

  pub are_of_types : (scope : List (Binding (Meaning T))) (name : List ℕ) → AreOfTypes type_as scope name
  are_of_types scope name = record {
    finds = found-scope_as scope name;
    means = meaning-scope_as scope name;
    takes = is_taken-scope_as scope name;
  }

module _ {M : Type 0} where
  -- closing takes the newest away as long as it is inside
  pub closed_older : (depth : ℕ) (scope : List (Binding M)) → is_inside depth scope ≡ true → closed depth scope ≡ closed depth (older scope)
  closed_older depth [] e = refl
  closed_older depth (b ∷ scope) e = ap (λ (t : Bool). if t then closed depth scope else b ∷ scope) e

  pub closed_all : (depth : ℕ) (scope : List (Binding M)) → is_inside depth scope ≡ false → closed depth scope ≡ scope
  closed_all depth [] e = refl
  closed_all depth (b ∷ scope) e = ap (λ (t : Bool). if t then closed depth scope else b ∷ scope) e

  outer_stay : (depth : ℕ) (outside : List (Binding M)) → All (λ b. b.depth < depth) outside → closed depth outside ≡ outside
  outer_stay depth [] below = refl
  outer_stay depth (b ∷ outside) below =
      let first = below 0 b (omega arith) in
      let not_inside : nat_le depth b.depth ≡ false = grind (arith, nat_tests, first) in
      closed_all depth (b ∷ outside) not_inside

  pub blocks_close : BlocksClose M
  blocks_close depth [] outside inner below = outer_stay depth outside below
  blocks_close depth (b ∷ inside) outside inner below =
      let first = inner 0 b (omega arith) in
      let is_in : nat_le depth b.depth ≡ true = grind (arith, nat_tests, first) in
      closed_older depth (b ∷ (inside ++ outside)) is_in ∙ blocks_close depth inside outside (λ k d lower. inner (suc k) d (omega (arith, lower))) below

  -- what is kept is what was there
  pub kept_over : (outside scope : List (Binding M)) → IsOver outside scope → kept (length outside) scope ≡ outside
  kept_over outside scope o =
      let longer = length-append o.newer outside in
      let same : length (o.newer ++ outside) - length outside ≡ length o.newer = omega (arith, longer) in
      ap (kept (length outside)) o.over ∙ ap (λ n. drop n (o.newer ++ outside)) same ∙ drop-append_seam o.newer outside

  pub kept_older : (count : ℕ) (scope : List (Binding M)) → count < length scope → kept count (older scope) ≡ kept count scope
  kept_older count [] below = refl
  kept_older count (b ∷ scope) below =
      let one_more : suc (length scope) - count ≡ suc (length scope - count) = omega (arith, below) in
      sym (ap (λ n. drop n (b ∷ scope)) one_more)

  pub kept_all : (count : ℕ) (scope : List (Binding M)) → length scope ≤ count → kept count scope ≡ scope
  kept_all count scope few = let none : length scope - count ≡ 0 = omega (arith, few) in ap (λ n. drop n scope) none
