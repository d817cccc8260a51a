-- The table of a scope: what its parts have to do with its bindings, which stand with the newest last.
use Rattle.std.specs.Prelude.{◌≡◌, ℕ, ◌+◌, List, [], ◌∷◌, ◌++◌, Option, Some, None, bytes_eq, if◌then◌else◌, get_or, set}
use Rattle.css_scopes.specs.declared.scope.Entry.{Entry}
use Rattle.css_scopes.specs.Scopes.{Binding}
use Rattle.css_scopes.specs.Names.{number_of}

-- what the table says of the name of a number
abbrev pub at_number : List (Option ℕ) → Option ℕ → Option ℕ
at_number newest None = None
at_number newest (Some n) = get_or newest n None

-- the table with an older entry of a name
abbrev pub restored : List (Option ℕ) → Option ℕ → (hidden : Option ℕ) → List (Option ℕ)
restored newest None hidden = newest
restored newest (Some n) hidden = set newest n hidden

module _ {M : Type 0} where
  abbrev pub binding : Entry M → Binding M
  binding b = record { name = b.name.now; depth = b.depth; meaning = b.meaning }

  -- the newest last, as a scope
  abbrev pub stacked_on : List (Binding M) → List (Entry M) → List (Binding M)
  stacked_on older [] = older
  stacked_on older (b ∷ bs) = stacked_on (binding b ∷ older) bs

  -- the place of the newest binding of a name, where the first of these has place `at`
  abbrev pub newest_place : (at : ℕ) → Option ℕ → List (Entry M) → List ℕ → Option ℕ
  newest_place at best [] name = best
  newest_place at best (b ∷ bs) name = newest_place (at + 1) (if bytes_eq b.name.now name then Some at else best) bs name

  abbrev pub place_of : List (Entry M) → List ℕ → Option ℕ
  place_of bs name = newest_place 0 None bs name

  abbrev pub IsIndexed : (names : List (List ℕ)) → (newest : List (Option ℕ)) → List (Entry M) → Type 0
  IsIndexed names newest bs = (name : List ℕ) → at_number newest (number_of names name) ≡ place_of bs name

  -- each binding knows which one it hides
  abbrev pub AreHiding : (before : List (Entry M)) → List (Entry M) → Type 0
  AreHiding before [] = Unit {0}
  AreHiding before (b ∷ bs) = (b.hidden ≡ place_of before b.name.now) × AreHiding (before ++ b ∷ []) bs
