-- The bytes that a task is given, as one list: those of each window row by row, the windows in order.
use Rattle.std.specs.Prelude.{ℕ, zero, suc, ◌+◌, Bool, false, not, ◌&&◌, List, [], ◌∷◌, ◌++◌, length, take, drop, get_or, replicate, slice_index, Option, Some, None, option_map, ◌==◌, if◌then◌else◌}
use Rattle.css_semantics.specs.Dialogue.{Action, Reply}
use Rattle.css_semantics.specs.Actions.{Access, Enters, Leaves, Loads, Stores, Allots, NoAccess, access_of}
use Rattle.css_semantics.specs.Memory.{is_between, overlaid}
use Rattle.css_semantics.specs.Tasks.{Window, Use, window_length}
use Rattle.css_semantics.specs.Alone.{is_innermost}
use Rattle.css_task.specs.Rooms.{Room, room_place, stack_of, new_byte, room_reply}

-- ---- addresses

-- so many addresses from one on
abbrev pub run : (base width : ℕ) → List ℕ
run base zero = []
run base (suc width) = base ∷ run (base + 1) width

abbrev pub rows_addresses : (rows base width stride : ℕ) → List ℕ
rows_addresses zero base width stride = []
rows_addresses (suc rows) base width stride = run base width ++ rows_addresses rows (base + stride) width stride

abbrev pub window_addresses : Window → List ℕ
window_addresses w = rows_addresses w.rows w.base w.width w.stride

abbrev pub addresses : List Use → List ℕ
addresses [] = []
addresses (u ∷ uses) = window_addresses u.window ++ addresses uses

-- the offset of a window's first byte
abbrev pub before : List Use → ℕ → ℕ
before uses j = length (addresses (take j uses))

-- a flag of each window, for each of its bytes
abbrev pub flags : (Use → Bool) → List Use → List Bool
flags flag [] = []
flags flag (u ∷ uses) = replicate (window_length u.window) (flag u) ++ flags flag uses

-- the first place where an address stands
abbrev pub cell : (addresses : List ℕ) → (at : ℕ) → Option ℕ
cell [] at = None
cell (a ∷ all) at = if a == at then Some 0 else option_map suc (cell all at)

-- ---- the task's memory, as lists

-- the windows, where the stack ends, the stack's bytes, the frames' sizes, the bytes at the windows' addresses in order, and which of
-- those have yet to be written
pub record Kept : Type 0 where
  pub uses : List Use
  pub place : ℕ
  pub stack : List ℕ
  pub frames : List ℕ
  pub bytes : List ℕ
  pub unwritten : List Bool

abbrev pub is_set : List Bool → Option ℕ → Bool
is_set flags None = false
is_set flags (Some k) = get_or flags k false

-- the room that it is
abbrev pub room : Kept → Room
room m = record {
  uses = m.uses;
  place = m.place;
  stack = m.stack;
  frames = m.frames;
  bytes = λ at. option_map (slice_index m.bytes) (cell (addresses m.uses) at);
  unwritten = λ at. is_set m.unwritten (cell (addresses m.uses) at);
}

abbrev pub kept_place : Kept → ℕ
kept_place m = room_place (room m)

abbrev pub kept_reply : Kept → Action → Reply
kept_reply m action = room_reply (room m) action

-- bytes at addresses, with what is stored from an address on in their place
abbrev pub stored_at : (addresses bytes : List ℕ) → (address : ℕ) (new : List ℕ) → List ℕ
stored_at [] bytes address new = []
stored_at (a ∷ all) [] address new = new_byte address new a 0 ∷ stored_at all [] address new
stored_at (a ∷ all) (b ∷ bytes) address new = new_byte address new a b ∷ stored_at all bytes address new

-- which bytes are yet to be written behind a store
abbrev pub unset_at : (addresses : List ℕ) → List Bool → (address size : ℕ) → List Bool
unset_at [] flags address size = []
unset_at (a ∷ all) [] address size = false ∷ unset_at all [] address size
unset_at (a ∷ all) (f ∷ flags) address size = (f && not (is_between address (address + size) a)) ∷ unset_at all flags address size

abbrev pub kept_stored : Kept → (address : ℕ) (new : List ℕ) → Kept
kept_stored m address new = record {
  uses = m.uses;
  place = m.place;
  stack = overlaid (kept_place m) m.stack address new;
  frames = m.frames;
  bytes = stored_at (addresses m.uses) m.bytes address new;
  unwritten = unset_at (addresses m.uses) m.unwritten address (length new);
}

abbrev pub kept_left : Kept → (size : ℕ) → Kept
kept_left m size = record { uses = m.uses; place = m.place; stack = drop size m.stack; frames = drop 1 m.frames; bytes = m.bytes; unwritten = m.unwritten }

abbrev pub kept_behind : Kept → Access → Kept
kept_behind m (Enters size) = record {
  uses = m.uses;
  place = m.place;
  stack = replicate size 0 ++ m.stack;
  frames = size ∷ m.frames;
  bytes = m.bytes;
  unwritten = m.unwritten;
}
kept_behind m (Leaves base size) = if is_innermost (stack_of (room m)) m.frames base size then kept_left m size else m
kept_behind m (Loads address width) = m
kept_behind m (Stores address bytes) = kept_stored m address bytes
kept_behind m (Allots size) = m
kept_behind m NoAccess = m

abbrev pub kept_after : Kept → Action → Kept
kept_after m action = kept_behind m (access_of action)
