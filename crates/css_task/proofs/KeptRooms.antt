-- A task's memory as lists is a room, and goes on as one.
use Rattle.std.proofs.Common.{◌≡◌, ℕ, zero, suc, ◌+◌, ◌-◌, Bool, true, false, not, ◌&&◌, List, [], ◌∷◌, length, get_or, slice_get, slice_index, Option, Some, None, option_map, ◌==◌, refl, ap, ap₂, sym, ◌∙◌, if◌then◌else◌}
use Rattle.std.proofs.lemmas.Bool.{eqb-true}
use Rattle.css_semantics.specs.Dialogue.{Action, Tape}
use Rattle.css_semantics.specs.Actions.{Access, Enters, Leaves, Loads, Stores, Allots, NoAccess, Taking, OnEntry, OnTurn, NoUnit, access_of, taking_of}
use Rattle.css_semantics.specs.Worlds.{state_after}
use Rattle.css_semantics.specs.Memory.{is_between}
use Rattle.css_semantics.specs.Units.{Metered, with_units, spending_by, spending}
use Rattle.css_semantics.specs.Alone.{is_innermost}
use Rattle.css_task.specs.Rooms.{Room, stack_of, new_byte, left, room_behind, room_after}
use Rattle.css_task.specs.Cells.{addresses, cell, Kept, is_set, room, stored_at, unset_at, kept_stored, kept_left, kept_behind, kept_after}
use Rattle.css_task.proofs.RoomWorlds.{same_everywhere}

-- ---- the place of an address

cell_head : (b : Bool) (a at : ℕ) (all : List ℕ) (o : Option ℕ) (k : ℕ) → (a == at) ≡ b → cell all at ≡ o → ((j : ℕ) → o ≡ Some j → slice_get all j ≡ Some at)
    → (if b then Some 0 else option_map suc o) ≡ Some k → slice_get (a ∷ all) k ≡ Some at
cell_head true a at all o zero is is' rest found = ap Some (eqb-true a at is)
cell_head true a at all o (suc k) is is' rest found = absurd (cc)
cell_head false a at all None k is is' rest found = absurd (cc)
cell_head false a at all (Some j) zero is is' rest found = absurd (cc)
cell_head false a at all (Some j) (suc k) is is' rest found =
    let same : j ≡ k = cc found in
    ap (slice_get all) (sym same) ∙ rest j refl

-- what is found stands there
pub cell_at : (all : List ℕ) (at k : ℕ) → cell all at ≡ Some k → slice_get all k ≡ Some at
cell_at [] at k found = absurd (cc)
cell_at (a ∷ all) at k found = cell_head (a == at) a at all (cell all at) k refl refl (λ j is. cell_at all at j is) found

-- ---- stores

pub stored_byte : (all bytes : List ℕ) (address : ℕ) (new : List ℕ) (k at : ℕ) → slice_get all k ≡ Some at → slice_index (stored_at all bytes address new) k ≡ new_byte address new at (slice_index bytes k)
stored_byte [] bytes address new k at is = absurd (cc)
stored_byte (a ∷ all) [] address new zero at is =
    let same : a ≡ at = cc is in
    ap (λ n. new_byte address new n 0) same
stored_byte (a ∷ all) (b ∷ bytes) address new zero at is =
    let same : a ≡ at = cc is in
    ap (λ n. new_byte address new n b) same
stored_byte (a ∷ all) [] address new (suc k) at is = stored_byte all [] address new k at is
stored_byte (a ∷ all) (b ∷ bytes) address new (suc k) at is = stored_byte all bytes address new k at is

pub unset_flag : (all : List ℕ) (flags : List Bool) (address size k at : ℕ) → slice_get all k ≡ Some at
    → get_or (unset_at all flags address size) k false ≡ (get_or flags k false && not (is_between address (address + size) at))
unset_flag [] flags address size k at is = absurd (cc)
unset_flag (a ∷ all) [] address size zero at is = refl
unset_flag (a ∷ all) (f ∷ flags) address size zero at is =
    let same : a ≡ at = cc is in
    ap (λ n. f && not (is_between address (address + size) n)) same
unset_flag (a ∷ all) [] address size (suc k) at is = unset_flag all [] address size k at is
unset_flag (a ∷ all) (f ∷ flags) address size (suc k) at is = unset_flag all flags address size k at is

bytes_by : (all bytes : List ℕ) (address : ℕ) (new : List ℕ) (at : ℕ) (o : Option ℕ) → cell all at ≡ o
    → option_map (slice_index (stored_at all bytes address new)) o ≡ option_map (new_byte address new at) (option_map (slice_index bytes) o)
bytes_by all bytes address new at None is = refl
bytes_by all bytes address new at (Some k) is = ap Some (stored_byte all bytes address new k at (cell_at all at k is))

flags_by : (all : List ℕ) (flags : List Bool) (address size at : ℕ) (o : Option ℕ) → cell all at ≡ o
    → is_set (unset_at all flags address size) o ≡ (is_set flags o && not (is_between address (address + size) at))
flags_by all flags address size at None is = refl
flags_by all flags address size at (Some k) is = unset_flag all flags address size k at (cell_at all at k is)

room_stored : (m : Kept) (address : ℕ) (new : List ℕ) → room (kept_stored m address new) ≡ room_behind (room m) (Stores address new)
room_stored m address new =
    ap₂ (λ (bytes : ℕ → Option ℕ) (unwritten : ℕ → Bool). let r : Room = record {
      uses = m.uses;
      place = m.place;
      stack = (kept_stored m address new).stack;
      frames = m.frames;
      bytes = bytes;
      unwritten = unwritten;
    } in r)
    (same_everywhere _ _ (λ at. bytes_by (addresses m.uses) m.bytes address new at (cell (addresses m.uses) at) refl))
    (same_everywhere _ _ (λ at. flags_by (addresses m.uses) m.unwritten address (length new) at (cell (addresses m.uses) at) refl))

room_leaving : (b : Bool) (m : Kept) (size : ℕ) → room (if b then kept_left m size else m) ≡ (if b then left (room m) size else room m)
room_leaving true m size = refl
room_leaving false m size = refl

room_by : (m : Kept) (access : Access) → room (kept_behind m access) ≡ room_behind (room m) access
room_by m (Enters size) = refl
room_by m (Leaves base size) = room_leaving (is_innermost (stack_of (room m)) m.frames base size) m size
room_by m (Loads address width) = refl
room_by m (Stores address bytes) = room_stored m address bytes
room_by m (Allots size) = refl
room_by m NoAccess = refl

-- ---- along a tape

abbrev pub metered_room : Metered Kept → Metered Room
metered_room m = with_units (room m.state) m.units

spent_by : (t : Taking) (m m' : Kept) (r : Room) (units : ℕ) → room m' ≡ r → metered_room (spending_by t m m' units) ≡ spending_by t (room m) r units
spent_by OnEntry m m' r units is = ap (λ s. with_units s (units - 1)) is
spent_by OnTurn m m' r units is = refl
spent_by NoUnit m m' r units is = ap (λ s. with_units s units) is

room_spent : (m : Metered Kept) (action : Action) → metered_room (spending kept_after m action) ≡ spending room_after (metered_room m) action
room_spent m action = spent_by (taking_of action) m.state (kept_after m.state action) (room_after (room m.state) action) m.units (room_by m.state (access_of action))

pub room_along : (m : Metered Kept) (tape : Tape) → metered_room (state_after (spending kept_after) m tape) ≡ state_after (spending room_after) (metered_room m) tape
room_along m [] = refl
room_along m (i ∷ tape) = room_spent (state_after (spending kept_after) m tape) i.action ∙ ap (λ r. spending room_after r i.action) (room_along m tape)
