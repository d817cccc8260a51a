-- The first one of some breaches.
use Rattle.std.specs.Prelude.{◌≡◌, nat_lt, ◌<◌, ◌≤◌, if◌then◌else◌, List, [], ◌∷◌, ◌++◌, All, Option, Some, None}
use Rattle.css_lex.specs.declared.breach.Breach.{Breach}

-- The breach is the first at the least place.
pub record IsFirst (b : Breach) (breaches : List Breach) : Type 0 where
  pub front : List Breach
  pub back : List Breach
  pub parts : breaches ≡ front ++ b ∷ back
  pub later : All (λ c. b.place < c.place) front
  pub not_earlier : All (λ c. b.place ≤ c.place) back

-- There is none, or this one is the first.
abbrev pub IsFound : Option Breach → List Breach → Type 0
IsFound None breaches = breaches ≡ []
IsFound (Some b) breaches = IsFirst b breaches

-- The one at the lesser place; at one place the first.
abbrev pub least_of : Option Breach → Option Breach → Option Breach
least_of None late = late
least_of (Some b) None = Some b
least_of (Some b) (Some c) = if nat_lt c.place b.place then Some c else Some b
