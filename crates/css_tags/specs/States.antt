-- The state of a tag, which its last entry tells, and the order in which groups were issued.
use Rattle.std.specs.Prelude.{◌≡◌, ◌≢◌, ◌<◌, ◌⊎◌, ℕ, Option, Some, None, List, [], ◌++◌, length}
use Rattle.std.specs.List.{last_or}
use Rattle.css_tags.specs.Plans.{Plan}
use Rattle.css_tags.specs.Entries.{Entry, issue, out, finish, collect}
use Rattle.css_tags.specs.Legal.{entries_on}

-- the last entry of a tag, if it has one
abbrev pub last_on : ℕ → List Entry → Option Entry
last_on tag history = last_or None (entries_on tag history)

-- the tag has no entry, or was collected
abbrev pub IsFree : ℕ → List Entry → Type 0
IsFree tag history = (last_on tag history ≡ None) ⊎ ((plan : Plan) × (last_on tag history ≡ Some (collect tag plan)))

-- a group was issued on the tag, and the mover hasn't taken it
abbrev pub IsIssued : ℕ → List Entry → Type 0
IsIssued tag history = (plan : Plan) × (last_on tag history ≡ Some (issue tag plan))

-- the mover has the tag's group
abbrev pub IsOut : ℕ → List Entry → Type 0
IsOut tag history = (plan : Plan) × (last_on tag history ≡ Some (out tag plan))

-- the tag is finished, and not collected
abbrev pub IsFinished : ℕ → List Entry → Type 0
IsFinished tag history = (plan : Plan) × (last_on tag history ≡ Some (finish tag plan))

-- the last entry of the first tag stands before the last entry of the other
abbrev pub IsBefore : List Entry → ℕ → ℕ → Type 0
IsBefore history tag other =
    (earlier later : List Entry) × (history ≡ earlier ++ later)
    × (entries_on tag later ≡ []) × (0 < length (entries_on other later))

-- the tag is issued with this plan, and each other issued tag was issued later
pub record IsIssuedFirst (history : List Entry) (tag : ℕ) (plan : Plan) : Type 0 where
  pub issued : last_on tag history ≡ Some (issue tag plan)
  pub first : (other : ℕ) → IsIssued other history → other ≢ tag → IsBefore history tag other

-- the least tag that is free
pub record IsLeastFree (history : List Entry) (tag : ℕ) : Type 0 where
  pub below : tag < 32
  pub free : IsFree tag history
  pub least : (other : ℕ) → other < tag → ¬ IsFree other history
