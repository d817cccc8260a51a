-- What a seat knows of a history, and goes on to know while others add to it.
use Rattle.std.specs.Prelude.{◌≡◌, ◌≢◌, ℕ, List, [], ◌∷◌, ◌++◌, Some}
use Rattle.css_seen.specs.Entries.{entries_of}
use Rattle.css_seen.specs.Legal.{Legal}
use Rattle.css_seen.specs.Views.{LockId, View}

module _ {E : Type 0} (maker : E → ℕ) where
  -- the longer history has more entries, none of them of this seat
  pub record OthersAdd (seat : ℕ) (old new : List E) : Type 0 where
    pub rest : List E
    pub goes_on : old ++ rest ≡ new
    pub not_mine : entries_of maker seat rest ≡ []

  module _ (MayFollow : List E → E → Type 0) where
    -- a fact of legal histories that every entry leaves true
    abbrev pub Lasts : (List E → Type 0) → Type 0
    Lasts Fact = (log : List E) (e : E) → Legal MayFollow log → MayFollow log e → Fact log → Fact (log ++ e ∷ [])

    -- a fact that another seat's entry leaves true
    abbrev pub Stays : ℕ → (List E → Type 0) → Type 0
    Stays seat Fact = (log : List E) (e : E) → Legal MayFollow log → MayFollow log e → maker e ≢ seat → Fact log → Fact (log ++ e ∷ [])

    -- a fact that a seat knows of what it saw, and that is still true as it looks again
    abbrev pub Remains : ℕ → (List E → Type 0) → Type 0
    Remains seat Fact = (old new : List E) → OthersAdd seat old new → Legal MayFollow new → Fact old → Fact new

-- What a pass with its lock knows at every moment: it is of this lock, and what it has seen is legal, and has just its own entries of
-- its number.
pub record IsSeat {E F : Type 0} (maker : E → ℕ) (legal : F → List E → Type 0) (lock : LockId) (v : View E F) : Type 0 where
  pub lock_is : v.lock ≡ lock
  pub own : entries_of maker v.number v.seen ≡ v.made
  pub fixed : F
  pub fixed_is : v.fixed ≡ Some fixed
  pub legal_is : legal fixed v.seen
