-- How the places out change.
use Rattle.std.specs.Prelude.{◌≡◌, List, ◌∷◌, ◌++◌}
use Rattle.css_place.specs.declared.stretch.Stretch.{Stretch}
use Rattle.css_place.specs.Places.{Store}

-- the places out are the old ones and this one, at the same size
pub record Adds (old new : Store) (s : Stretch) : Type 0 where
  pub size : new.size ≡ old.size
  pub out : (before after : List Stretch) × (old.out ≡ before ++ after) × (new.out ≡ before ++ s ∷ after)

-- the places out are the old ones without this one, at the same size
abbrev pub Removes : Store → Store → Stretch → Type 0
Removes old new s = Adds new old s
