-- The flat world: one flat memory and an input, and units.
use Rattle.std.specs.Prelude.{◌≡◌, ◌≤◌, ℕ, ◌+◌, ◌-◌, ◌^◌, min, List, [], ◌∷◌, length, drop, Bool, nat_le, nat_lt, ◌==◌, ◌&&◌, if◌then◌else◌}
use Rattle.css_semantics.specs.declared.TheConstants.{STACK_LIMIT, OPEN_CALLS}
use Rattle.css_base.specs.declared.rule.Rule.TheVariants.{MainStack}
use Rattle.css_semantics.specs.Dialogue.{Action, Enter, Turn, Leave, Load, Store, Out, In, Malloc, Calls, Returns, Start, Finish, Barrier, Wait, WaitFault, DimFault, Fault, End, Tape, Reply, Says, Fails, Refuses, World}
use Rattle.css_semantics.specs.Actions.{Access, Enters, Leaves, Loads, Stores, Allots, NoAccess, access_of, bytes_taken}
use Rattle.css_semantics.specs.Worlds.{state_after, world_of}
use Rattle.css_semantics.specs.Units.{with_units, metered, spending}
use Rattle.css_semantics.specs.Memory.{Memory, StackLimit, heap_top, has_heap, stack_place, is_live, bytes_at, big_endian, after, memory_after}

-- what main's stack may take where pragmas are erased
abbrev pub erased_stack : StackLimit
erased_stack = record { bytes = STACK_LIMIT; calls = OPEN_CALLS }

-- the stack may take one more frame
abbrev pub has_room : Memory → (size : ℕ) → Bool
has_room m size = nat_le (length m.stack + size) (min m.limit.bytes m.end) && nat_lt m.calls m.limit.calls

-- a call is open, and its frame of so many bytes from this base is the front of the stack
abbrev pub is_innermost : Memory → (base size : ℕ) → Bool
is_innermost m base size = (base + length m.stack == m.end) && (nat_le size (length m.stack) && nat_lt 0 m.calls)

-- the reply of a memory to an access: an entry that would pass the stack's limit is refused, and only the innermost frame is left
abbrev pub access_reply : Memory → Access → Reply
access_reply m (Enters size) = if has_room m size then Says (stack_place m - size) else Refuses MainStack
access_reply m (Leaves base size) = if is_innermost m base size then Says 0 else Fails
access_reply m (Loads address width) = if is_live m address width then Says (big_endian (bytes_at m address width)) else Fails
access_reply m (Stores address bytes) = if is_live m address (length bytes) then Says 0 else Fails
access_reply m (Allots size) = Says (if has_heap m size then heap_top m else 0)
access_reply m NoAccess = Says 0

-- the reply to an action, which says nothing of what isn't asked of the memory
abbrev pub memory_reply : Memory → Action → Reply
memory_reply m action = access_reply m (access_of action)

-- ---- worlds

-- the memory, and what is left of the input
pub record FlatState : Type 0 where
  pub memory : Memory
  pub input : List ℕ

-- the next byte, or -1 as a cell of 64 bits
abbrev pub next_byte : List ℕ → ℕ
next_byte [] = 2 ^ 64 - 1
next_byte (b ∷ input) = b

-- the reply to an action; the body of a task is run
abbrev pub reply_in : FlatState → Action → Reply
reply_in s (Enter size) = memory_reply s.memory (Enter size)
reply_in s Turn = Says 0
reply_in s (Leave base size) = memory_reply s.memory (Leave base size)
reply_in s (Load address width) = memory_reply s.memory (Load address width)
reply_in s (Store address bytes) = memory_reply s.memory (Store address bytes)
reply_in s (Out bytes) = Says (length bytes)
reply_in s In = Says (next_byte s.input)
reply_in s (Malloc size) = memory_reply s.memory (Malloc size)
reply_in s (Calls call) = Says 1
reply_in s Returns = Says 0
reply_in s Start = Says 0
reply_in s Finish = Says 0
reply_in s Barrier = Says 0
reply_in s (Wait address) = Says 0
reply_in s WaitFault = Says 0
reply_in s DimFault = Says 0
reply_in s (Fault kind) = Says 0
reply_in s (End result) = Says 0

-- what is left of the input behind an action, and behind a tape
abbrev pub input_after : List ℕ → Action → List ℕ
input_after input action = drop (bytes_taken action) input

abbrev pub input_left : List ℕ → Tape → List ℕ
input_left input tape = state_after input_after input tape

-- what an action does
abbrev pub flat_after : FlatState → Action → FlatState
flat_after s action = record { memory = after s.memory action; input = input_after s.input action }

-- the state after a tape
abbrev pub flat_at : FlatState → Tape → FlatState
flat_at start tape = record { memory = memory_after start.memory tape; input = input_left start.input tape }

-- the world of a state, without units
abbrev pub in_memory : FlatState → World
in_memory start tape i = reply_in (flat_at start tape) i.action

-- the flat world of a state, with so many units
abbrev pub flat : FlatState → (units : ℕ) → World
flat start units = world_of (metered reply_in) (spending flat_after) (with_units start units)

-- ---- starts

-- A memory of so many bytes, whose stack may have as many as an erased program's; what is live below leaves room for them.
pub record IsLaidOut (size : ℕ) (m : Memory) : Type 0 where
  pub end : m.end ≡ size
  pub limit : m.limit ≡ erased_stack
  pub room : heap_top m + STACK_LIMIT ≤ size

-- A state before main's entry: such a memory, in which no call is open and the stack is empty.
pub record IsStart (size : ℕ) (start : FlatState) : Type 0 where
  pub laid_out : IsLaidOut size start.memory
  pub stack : start.memory.stack ≡ []
  pub calls : start.memory.calls ≡ 0

-- the start of a program without globals, in a memory of so many bytes, with nothing to read
abbrev pub no_globals : (size : ℕ) → FlatState
no_globals size = record { memory = record { globals = []; heap = []; stack = []; end = size; calls = 0; limit = erased_stack }; input = [] }
