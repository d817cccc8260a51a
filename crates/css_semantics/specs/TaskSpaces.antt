-- The memory and the open frames of a task whose windows are read and written, as a machine's space: what the rules on a task ask
-- then is where its windows' rows and its frames are.
use Rattle.std.specs.Prelude.{ℕ, ◌+◌, ◌-◌, ◌≤◌, Bool, ◌||◌, ◌&&◌, List, [], ◌∷◌, length, fold, All, ◌⊎◌, nat_le, if◌then◌else◌}
use Rattle.std.specs.List.{list_any}
use Rattle.css_base.specs.declared.rule.Rule.TheVariants as rules
use Rattle.css_semantics.specs.Dialogue.{Action, Reply, Says, Fails, Refuses}
use Rattle.css_semantics.specs.Actions.{Access, Enters, Leaves, Loads, Stores, Allots, NoAccess, access_of}
use Rattle.css_semantics.specs.Memory.{big_endian}
use Rattle.css_semantics.specs.Tasks.{frames_after}
use Rattle.css_semantics.specs.Rules.{task_stack, is_too_deep, is_in_frame}
use Rattle.css_semantics.specs.Alone.{Region, TaskMemory, task_place, task_bytes, task_after, is_innermost}

pub record TaskState : Type 0 where
  pub memory : TaskMemory
  pub frames : List ℕ

-- the address of the stack's first byte
abbrev pub place_of : TaskState → ℕ
place_of s = task_place s.memory

-- some bytes are wholly in one region
abbrev pub holds : (address size : ℕ) → Region → Bool
holds address size r = nat_le r.base address && nat_le (address + size) (r.base + length r.bytes)

-- some bytes are wholly in one region or in one frame
abbrev pub is_given : TaskState → (address size : ℕ) → Bool
is_given s address size = list_any (holds address size) s.memory.regions || is_in_frame s.memory.place s.frames address size

-- the reply to an entry that isn't too deep: a stack that begins at address 0 has no room below
abbrev pub entry_reply : (place size : ℕ) → Reply
entry_reply place size = if nat_le size place then Says (place - size) else Fails

-- the reply to an action, without units
abbrev pub reply_to : TaskState → Access → Reply
reply_to s (Enters size) = if is_too_deep task_stack s.frames size then Refuses rules.TaskStack else entry_reply (place_of s) size
reply_to s (Leaves base size) = if is_innermost s.memory s.frames base size then Says 0 else Fails
reply_to s (Loads address width) =
    if is_given s address width then Says (big_endian (task_bytes s.memory address width)) else Refuses rules.OutsideArguments
reply_to s (Stores address bytes) = if is_given s address (length bytes) then Says 0 else Refuses rules.OutsideArguments
reply_to s (Allots size) = Says 0
reply_to s NoAccess = Says 0

abbrev pub space_reply : TaskState → Action → Reply
space_reply s action = reply_to s (access_of action)

abbrev pub space_behind : TaskState → Action → TaskState
space_behind s action = record { memory = task_after s.memory action; frames = frames_after s.frames action }

-- what an action does: a leaving that fails changes nothing
abbrev pub space_by : TaskState → Access → (behind : TaskState) → TaskState
space_by s (Enters size) behind = behind
space_by s (Leaves base size) behind = if is_innermost s.memory s.frames base size then behind else s
space_by s (Loads address width) behind = behind
space_by s (Stores address bytes) behind = behind
space_by s (Allots size) behind = behind
space_by s NoAccess behind = behind

abbrev pub space_after : TaskState → Action → TaskState
space_after s action = space_by s (access_of action) (space_behind s action)

-- ---- where the bytes are

-- the bytes of frames
abbrev pub total : (frames : List ℕ) → ℕ
total frames = fold (λ sum f. sum + f) 0 frames

-- the bytes from one address up to another are none of a region
abbrev pub IsClearOf : (from to : ℕ) → Region → Type 0
IsClearOf from to r = (to ≤ r.base) ⊎ (r.base + length r.bytes ≤ from)

-- no two regions share a byte
abbrev pub ArePartedRegions : List Region → Type 0
ArePartedRegions [] = Unit {0}
ArePartedRegions (r ∷ regions) = All (IsClearOf r.base (r.base + length r.bytes)) regions × ArePartedRegions regions
