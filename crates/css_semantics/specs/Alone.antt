-- A task by itself: a memory of the bytes that it is given and of its own stack, judged by the rules on tasks.
use Rattle.std.specs.Prelude.{ℕ, zero, suc, ◌+◌, ◌-◌, Bool, false, List, [], ◌∷◌, ◌++◌, length, take, drop, replicate, map, flat_map, slice_index, nat_le, ◌==◌, ◌&&◌, if◌then◌else◌}
use Rattle.css_base.specs.declared.limits.Limits.{Limits}
use Rattle.css_semantics.specs.Dialogue.{Action, Tape, Reply, Says, Fails, World}
use Rattle.css_semantics.specs.Actions.{Access, Enters, Leaves, Loads, Stores, Allots, NoAccess, access_of}
use Rattle.css_semantics.specs.Worlds.{world_of, state_after}
use Rattle.css_semantics.specs.Memory.{big_endian, is_between, overlaid}
use Rattle.css_semantics.specs.Tasks.{Window, Use, window_length, reads, writes, Body, entry_of, body_behind}
use Rattle.css_semantics.specs.Rules.{checks_of_task, first_broken, judged_reply}

-- ---- the memory

-- some bytes from an address
pub record Region : Type 0 where
  pub base : ℕ
  pub bytes : List ℕ

-- the rows of the windows, the stack place at the task's entry, and the bytes of its stack, which ends there
pub record TaskMemory : Type 0 where
  pub regions : List Region
  pub place : ℕ
  pub stack : List ℕ

-- the address of the stack's first byte
abbrev pub task_place : TaskMemory → ℕ
task_place m = m.place - length m.stack

abbrev pub is_in_region : Region → ℕ → Bool
is_in_region r address = is_between r.base (r.base + length r.bytes) address

-- the byte at an address that one of the regions has
abbrev pub byte_of_regions : List Region → ℕ → ℕ
byte_of_regions [] address = 0
byte_of_regions (r ∷ regions) address =
    if is_in_region r address then slice_index r.bytes (address - r.base) else byte_of_regions regions address

-- the byte at an address of the stack or of a region
abbrev pub task_byte : TaskMemory → ℕ → ℕ
task_byte m address =
    if is_between (task_place m) m.place address then slice_index m.stack (address - task_place m) else byte_of_regions m.regions address

abbrev pub task_bytes : TaskMemory → (address width : ℕ) → List ℕ
task_bytes m address zero = []
task_bytes m address (suc width) = task_byte m address ∷ task_bytes m (address + 1) width

abbrev pub overlaid_region : (address : ℕ) (new : List ℕ) → Region → Region
overlaid_region address new r = record r { bytes = overlaid r.base r.bytes address new }

-- what an action does to the memory
abbrev pub task_accessed : TaskMemory → Access → TaskMemory
task_accessed m (Enters size) = record m { stack = replicate size 0 ++ m.stack }
task_accessed m (Leaves base size) = record m { stack = drop size m.stack }
task_accessed m (Loads address width) = m
task_accessed m (Stores address new) = record m {
  regions = map (overlaid_region address new) m.regions;
  stack = overlaid (task_place m) m.stack address new;
}
task_accessed m (Allots size) = m
task_accessed m NoAccess = m

abbrev pub task_after : TaskMemory → Action → TaskMemory
task_after m action = task_accessed m (access_of action)

-- the innermost of these frames has so many bytes
abbrev pub is_first : (size : ℕ) → (frames : List ℕ) → Bool
is_first size [] = false
is_first size (frame ∷ frames) = frame == size

-- the innermost of these frames has so many bytes from this base on, and is the front of the stack
abbrev pub is_innermost : TaskMemory → (frames : List ℕ) → (base size : ℕ) → Bool
is_innermost m frames base size = (base + length m.stack == m.place) && (nat_le size (length m.stack) && is_first size frames)

-- The reply to an action that no rule refuses, where these frames are open: only the innermost frame is left. A task has no heap.
abbrev pub access_reply : TaskMemory → (frames : List ℕ) → Access → Reply
access_reply m frames (Enters size) = Says (task_place m - size)
access_reply m frames (Leaves base size) = if is_innermost m frames base size then Says 0 else Fails
access_reply m frames (Loads address width) = Says (big_endian (task_bytes m address width))
access_reply m frames (Stores address bytes) = Says 0
access_reply m frames (Allots size) = Says 0
access_reply m frames NoAccess = Says 0

abbrev pub task_reply : TaskMemory → (frames : List ℕ) → Action → Reply
task_reply m frames action = access_reply m frames (access_of action)

-- ---- what a task is given, and what it leaves

-- a window's rows as regions, with their bytes in order
abbrev pub rows_as_regions : (rows base width stride : ℕ) → (bytes : List ℕ) → List Region
rows_as_regions zero base width stride bytes = []
rows_as_regions (suc rows) base width stride bytes =
    record { base = base; bytes = take width bytes } ∷ rows_as_regions rows (base + stride) width stride (drop width bytes)

abbrev pub regions_of : Window → (bytes : List ℕ) → List Region
regions_of w bytes = rows_as_regions w.rows w.base w.width w.stride bytes

abbrev pub first_input : List (List ℕ) → List ℕ
first_input [] = []
first_input (bytes ∷ inputs) = bytes

-- the windows' regions: those that are read have the inputs in order, the others zeros
abbrev pub given_regions : List Use → (inputs : List (List ℕ)) → List Region
given_regions [] inputs = []
given_regions (u ∷ uses) inputs =
    if reads u.direction
    then regions_of u.window (first_input inputs) ++ given_regions uses (drop 1 inputs)
    else regions_of u.window (replicate (window_length u.window) 0) ++ given_regions uses inputs

-- the bytes of a window's rows, in order
abbrev pub bytes_left : TaskMemory → (rows base width stride : ℕ) → List ℕ
bytes_left m zero base width stride = []
bytes_left m (suc rows) base width stride = task_bytes m base width ++ bytes_left m rows (base + stride) width stride

-- what is left in the windows that are written, in order
abbrev pub outs : TaskMemory → List Use → List (List ℕ)
outs m uses =
    flat_map (λ u. if writes u.direction then bytes_left m u.window.rows u.window.base u.window.width u.window.stride ∷ [] else []) uses

-- ---- the world

-- the memory, and what the rules ask of the task's body
pub record Solitude : Type 0 where
  pub memory : TaskMemory
  pub body : Body

abbrev pub alone_reply : Limits → Solitude → Action → Reply
alone_reply limits s action = judged_reply (first_broken (checks_of_task limits s.body action)) (task_reply s.memory s.body.frames action)

abbrev pub alone_behind : Solitude → Action → Solitude
alone_behind s action = record { memory = task_after s.memory action; body = body_behind s.body action }

-- a leaving that fails changes nothing
abbrev pub alone_by : Solitude → Access → (behind : Solitude) → Solitude
alone_by s (Enters size) behind = behind
alone_by s (Leaves base size) behind = if is_innermost s.memory s.body.frames base size then behind else s
alone_by s (Loads address width) behind = behind
alone_by s (Stores address bytes) behind = behind
alone_by s (Allots size) behind = behind
alone_by s NoAccess behind = behind

abbrev pub alone_after : Solitude → Action → Solitude
alone_after s action = alone_by s (access_of action) (alone_behind s action)

-- a task with these windows, inputs and stack place, before its entry
abbrev pub at_entry : List Use → (inputs : List (List ℕ)) → (place : ℕ) → Solitude
at_entry uses inputs place = record {
  memory = record { regions = given_regions uses inputs; place = place; stack = [] };
  body = entry_of uses place;
}

abbrev pub alone_world : Limits → List Use → (inputs : List (List ℕ)) → (place : ℕ) → World
alone_world limits uses inputs place = world_of (alone_reply limits) alone_after (at_entry uses inputs place)

-- the outs after a tape
abbrev pub outs_after : List Use → (inputs : List (List ℕ)) → (place : ℕ) → Tape → List (List ℕ)
outs_after uses inputs place tape = outs (state_after alone_after (at_entry uses inputs place) tape).memory uses
