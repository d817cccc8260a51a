-- How a channel's slots and its queue tell the states of the tags, so that no call walks the history.
use Rattle.std.specs.Prelude.{◌≡◌, ◌+◌, ◌<◌, ◌≤◌, ◌^◌, ℕ, List, [], ◌∷◌, ◌++◌, length, All, AllPairs, Contains, slice_index_or}
use Rattle.std.specs.List.{flat_map, sum_by}
use Rattle.css_tags.specs.declared.slot.Slot.{Slot}
use Rattle.css_tags.specs.declared.slot.Slot.TheVariants.{Free, Issued, Out, Finished}
use Rattle.css_tags.specs.Plans.{Plan}
use Rattle.css_tags.specs.Groups.{left, plan_of}
use Rattle.css_tags.specs.Entries.{Entry, issue, out, finish}
use Rattle.css_tags.specs.Legal.{round, entries_on}
use Rattle.css_tags.specs.States.{IsIssued, IsBefore}

abbrev pub IsFreeSlot : Slot → Type 0
IsFreeSlot Free = Unit {0}
IsFreeSlot (Issued group) = ⊥
IsFreeSlot Out = ⊥
IsFreeSlot (Finished group) = ⊥

abbrev pub IsFinishedSlot : Slot → Type 0
IsFinishedSlot Free = ⊥
IsFinishedSlot (Issued group) = ⊥
IsFinishedSlot Out = ⊥
IsFinishedSlot (Finished group) = Unit {0}

-- the entries of a tag since it was last free
abbrev pub IsBegun : ℕ → Slot → List Entry → Type 0
IsBegun tag Free entries = entries ≡ []
IsBegun tag (Issued group) entries = entries ≡ issue tag (plan_of group) ∷ []
IsBegun tag Out entries = (plan : Plan) × (entries ≡ issue tag plan ∷ out tag plan ∷ [])
IsBegun tag (Finished group) entries =
    (left group ≡ []) × (entries ≡ issue tag (plan_of group) ∷ out tag (plan_of group) ∷ finish tag (plan_of group) ∷ [])

-- the entries of a tag are whole rounds, and then those that its slot tells
pub record IsSlot (history : List Entry) (tag : ℕ) (slot : Slot) : Type 0 where
  pub whole : List Plan
  pub begun : List Entry
  pub entries : entries_on tag history ≡ flat_map (round tag) whole ++ begun
  pub state : IsBegun tag slot begun

-- how many entries of a round are still to come
abbrev pub to_come : Slot → ℕ
to_come Free = 0
to_come (Issued group) = 3
to_come Out = 2
to_come (Finished group) = 1

-- 1 where the tag is issued
abbrev pub waiting : Slot → ℕ
waiting Free = 0
waiting (Issued group) = 1
waiting Out = 0
waiting (Finished group) = 0

-- the tags that are issued, in order of issue
pub record IsQueue (history : List Entry) (slots : List Slot) (queue : List ℕ) : Type 0 where
  pub number : length queue ≡ sum_by waiting slots
  pub issued : All (λ tag. IsIssued tag history) queue
  pub complete : (tag : ℕ) → IsIssued tag history → Contains queue tag
  pub order : AllPairs (IsBefore history) queue

pub record IsChannel (history : List Entry) (slots : List Slot) (queue : List ℕ) (capacity : ℕ) : Type 0 where
  pub count : length slots ≡ 32
  pub tags : All (λ e. e.tag < 32) history
  pub each : (tag : ℕ) → tag < 32 → IsSlot history tag (slice_index_or slots tag Free)
  pub queued : IsQueue history slots queue
  pub room : length history + sum_by to_come slots ≤ capacity
  pub small : length history + sum_by to_come slots < 2 ^ 63
