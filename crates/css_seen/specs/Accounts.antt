-- Words for whoever splits passes off, hands them to threads and joins them again.
use Rattle.std.specs.Prelude.{◌≡◌, ℕ, zero, suc, false, List, [], ◌∷◌, ◌++◌}
use Rattle.css_seen.specs.Views.{LockId, View}

-- the pass of this lock and number is outside, has made these entries, and has joined none
pub record HasMade {E F : Type 0} (lock : LockId) (number : ℕ) (made : List E) (v : View E F) : Type 0 where
  pub lock_is : v.lock ≡ lock
  pub outside : v.inside ≡ false
  pub number_is : v.number ≡ number
  pub made_is : v.made ≡ made
  pub joined_is : v.joined ≡ []

-- the passes of the numbers 1 to n in order, each with the entries that it made
abbrev pub numbered : {E : Type 0} → ℕ → (ℕ → List E) → List (ℕ × List E)
numbered zero made = []
numbered (suc n) made = numbered n made ++ (suc n, made (suc n)) ∷ []
