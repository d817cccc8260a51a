-- What a machine that runs a task finds: the bytes that the task is given, which of them it has yet to write, and its stack.
use Rattle.std.specs.Prelude.{ℕ, zero, suc, ◌+◌, ◌-◌, Bool, not, ◌&&◌, List, [], ◌∷◌, ◌++◌, length, drop, replicate, flat_map, slice_index, Option, option_map, unwrap_or, if◌then◌else◌}
use Rattle.css_base.specs.declared.rule.Rule.TheVariants as rules
use Rattle.css_semantics.specs.Dialogue.{Action, Reply, Says, Fails, Refuses}
use Rattle.css_semantics.specs.Actions.{Access, Enters, Leaves, Loads, Stores, Allots, NoAccess, access_of}
use Rattle.css_semantics.specs.Memory.{big_endian, is_between, overlaid}
use Rattle.css_semantics.specs.Tasks.{Use, Body, writes}
use Rattle.css_semantics.specs.Pending.{some_from}
use Rattle.css_semantics.specs.Rules.{task_stack, is_too_deep, is_outside, is_given_for}
use Rattle.css_semantics.specs.Alone.{TaskMemory, is_innermost}
use Rattle.css_semantics.specs.TaskSpaces.{entry_reply}

-- the task's windows, the address where its stack ends, the stack's bytes, the sizes of the open frames, the byte at an address of a
-- window, and whether the byte there is one of a window that is only written, and isn't written yet
pub record Room : Type 0 where
  pub uses : List Use
  pub place : ℕ
  pub stack : List ℕ
  pub frames : List ℕ
  pub bytes : ℕ → Option ℕ
  pub unwritten : ℕ → Bool

-- the address of the stack's first byte
abbrev pub room_place : Room → ℕ
room_place r = r.place - length r.stack

-- the byte at an address of the stack or of a window
abbrev pub byte_of : Room → ℕ → ℕ
byte_of r address =
    if is_between (room_place r) r.place address then slice_index r.stack (address - room_place r) else unwrap_or (r.bytes address) 0

abbrev pub bytes_from : Room → (address width : ℕ) → List ℕ
bytes_from r address zero = []
bytes_from r address (suc width) = byte_of r address ∷ bytes_from r (address + 1) width

-- what the rules on a task's body ask, but for its units
abbrev pub body_of : Room → Body
body_of r = record { uses = r.uses; place = r.place; frames = r.frames; units = 0; stored = [] }

-- the stack alone
abbrev pub stack_of : Room → TaskMemory
stack_of r = record { regions = []; place = r.place; stack = r.stack }

-- the reply to an action, without units: the first rule by number that it breaks
abbrev pub room_replies : Room → Access → Reply
room_replies r (Enters size) = if is_too_deep task_stack r.frames size then Refuses rules.TaskStack else entry_reply (room_place r) size
room_replies r (Leaves base size) = if is_innermost (stack_of r) r.frames base size then Says 0 else Fails
room_replies r (Loads address width) =
    if is_outside (body_of r) address width then Refuses rules.OutsideArguments
    else (if some_from r.unwritten address width then Refuses rules.ReadUnwritten
    else Says (big_endian (bytes_from r address width)))
room_replies r (Stores address bytes) =
    if is_outside (body_of r) address (length bytes) then Refuses rules.OutsideArguments
    else (if some_from (is_given_for (λ d. not (writes d)) (body_of r)) address (length bytes) then Refuses rules.WroteInput
    else Says 0)
room_replies r (Allots size) = Says 0
room_replies r NoAccess = Says 0

abbrev pub room_reply : Room → Action → Reply
room_reply r action = room_replies r (access_of action)

-- the byte at an address, where some are stored from another one on
abbrev pub new_byte : (address : ℕ) (new : List ℕ) (at old : ℕ) → ℕ
new_byte address new at old = if is_between address (address + length new) at then slice_index new (at - address) else old

abbrev pub entered : Room → (size : ℕ) → Room
entered r size = record {
  uses = r.uses;
  place = r.place;
  stack = replicate size 0 ++ r.stack;
  frames = size ∷ r.frames;
  bytes = r.bytes;
  unwritten = r.unwritten;
}

abbrev pub left : Room → (size : ℕ) → Room
left r size = record {
  uses = r.uses;
  place = r.place;
  stack = drop size r.stack;
  frames = drop 1 r.frames;
  bytes = r.bytes;
  unwritten = r.unwritten;
}

abbrev pub stored : Room → (address : ℕ) (new : List ℕ) → Room
stored r address new = record {
  uses = r.uses;
  place = r.place;
  stack = overlaid (room_place r) r.stack address new;
  frames = r.frames;
  bytes = λ at. option_map (new_byte address new at) (r.bytes at);
  unwritten = λ at. r.unwritten at && not (is_between address (address + length new) at);
}

-- what an action does: a leaving that fails changes nothing
abbrev pub room_behind : Room → Access → Room
room_behind r (Enters size) = entered r size
room_behind r (Leaves base size) = if is_innermost (stack_of r) r.frames base size then left r size else r
room_behind r (Loads address width) = r
room_behind r (Stores address bytes) = stored r address bytes
room_behind r (Allots size) = r
room_behind r NoAccess = r

abbrev pub room_after : Room → Action → Room
room_after r action = room_behind r (access_of action)

-- ---- what is left

-- the bytes of rows, in order
abbrev pub rows_from : Room → (rows base width stride : ℕ) → List ℕ
rows_from r zero base width stride = []
rows_from r (suc rows) base width stride = bytes_from r base width ++ rows_from r rows (base + stride) width stride

-- the bytes of the windows that are written, in order
abbrev pub outs_from : Room → List Use → List (List ℕ)
outs_from r uses =
    flat_map (λ u. if writes u.direction then rows_from r u.window.rows u.window.base u.window.width u.window.stride ∷ [] else []) uses
