-- What can be seen at a place of a text: the bindings of names, the newest first (C99 6.2.1), whatever a name means.
use Rattle.std.specs.Prelude.{◌≡◌, ℕ, ◌-◌, Bool, false, ◌==◌, ◌||◌, nat_le, List, [], ◌∷◌, ◌++◌, drop, length, Option, Some, None, is_some, option_map, bytes_eq, if◌then◌else◌, refl}
use Rattle.std.specs.Coded.{Coded, code_by, coded×, coded_ℕ, coded_list}
use Rattle.css_types.specs.Scopes.{library_of}

-- depth 0 is outside all functions, 1 a function's outermost block with its parameters
pub record Binding (M : Type 0) : Type 0 where
  pub name : List ℕ
  pub depth : ℕ
  pub meaning : M

-- a binding is stored as the tuple of its fields
abbrev pub binding_code : {M : Type 0} → Coded M → Coded (Binding M)
binding_code {M} code =
    code_by
    (List ℕ × (ℕ × M))
    (coded× (coded_list coded_ℕ) (coded× coded_ℕ code))
    (λ b. (b.name, (b.depth, b.meaning)))
    (λ p. record { name = p.0; depth = p.1.0; meaning = p.1.1 })
    (λ _. refl)

abbrev pub scope_code : {M : Type 0} → Coded M → Coded (List (Binding M))
scope_code code = coded_list (binding_code code)

module _ {M : Type 0} where
  -- the newest binding of a name hides those before it
  abbrev pub found : List (Binding M) → List ℕ → Option (Binding M)
  found [] name = None
  found (b ∷ scope) name = if bytes_eq b.name name then Some b else found scope name

  -- what a name means
  abbrev pub meaning_of : List (Binding M) → List ℕ → Option M
  meaning_of scope name = option_map (λ b. b.meaning) (found scope name)

  abbrev pub is_at : ℕ → Option (Binding M) → Bool
  is_at depth None = false
  is_at depth (Some b) = b.depth == depth

  -- the name can't be declared in the block of this depth: it is already, or the library has it
  abbrev pub is_taken : List (Binding M) → (depth : ℕ) → List ℕ → Bool
  is_taken scope depth name = is_some (library_of name) || is_at depth (found scope name)

  -- the newest binding is one of the block of this depth, or of a block inside it
  abbrev pub is_inside : (depth : ℕ) → List (Binding M) → Bool
  is_inside depth [] = false
  is_inside depth (b ∷ scope) = nat_le depth b.depth

  -- without the newest
  abbrev pub older : List (Binding M) → List (Binding M)
  older [] = []
  older (b ∷ scope) = scope

  -- At the end of the block of this depth its bindings go, and those of blocks inside it. What they hid is seen again.
  abbrev pub closed : (depth : ℕ) → List (Binding M) → List (Binding M)
  closed depth [] = []
  closed depth (b ∷ scope) = if nat_le depth b.depth then closed depth scope else b ∷ scope

  -- the oldest so many
  abbrev pub kept : (count : ℕ) → List (Binding M) → List (Binding M)
  kept count scope = drop (length scope - count) scope

  -- bindings over others
  pub record IsOver (older scope : List (Binding M)) : Type 0 where
    pub newer : List (Binding M)
    pub over : scope ≡ newer ++ older
