-- What is known of the outside: bytes that an object may tell, and counts of faults.
use Rattle.std.specs.Prelude.{◌≡◌, ℕ, ◌-◌, ◌<◌, ◌≤◌, ◌^◌, ◌⊎◌, List, ◌++◌, Option, Some, IfSome}

-- A count of faults rose in a call, or stands at its end after it.
abbrev pub Rose : ℕ → ℕ → Type 0
Rose before after = (before < after) ⊎ (2 ^ 64 - 1 ≤ after)

-- A sink that tells its bytes got these bytes behind those it had.
abbrev pub Appends : Option (List ℕ) → Option (List ℕ) → List ℕ → Type 0
Appends before after bytes = IfSome before (λ had. after ≡ Some (had ++ bytes))

-- A sink that tells its bytes got a prefix of these bytes behind those it had.
abbrev pub AppendsPrefix : Option (List ℕ) → Option (List ℕ) → List ℕ → Type 0
AppendsPrefix before after bytes = (front : List ℕ) × (rest : List ℕ) × (bytes ≡ front ++ rest) × Appends before after front

-- A source that tells what is left gave these bytes, and has the rest left.
abbrev pub Gives : Option (List ℕ) → Option (List ℕ) → List ℕ → Type 0
Gives before after bytes = IfSome before (λ had. (rest : List ℕ) × (after ≡ Some rest) × (had ≡ bytes ++ rest))
