-- Histories that are legal entry by entry.
use Rattle.std.specs.Prelude.{List, [], ◌∷◌, ◌++◌}

-- MayFollow log e: the entry may follow this history
module _ {E : Type 0} (MayFollow : List E → E → Type 0) where
  -- each of these entries may follow those before it
  abbrev pub LegalAfter : List E → List E → Type 0
  LegalAfter log [] = Unit {0}
  LegalAfter log (e ∷ rest) = MayFollow log e × LegalAfter (log ++ e ∷ []) rest

  abbrev pub Legal : List E → Type 0
  Legal log = LegalAfter [] log
