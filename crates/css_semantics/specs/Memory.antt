-- The flat memory: live bytes of globals, of the heap and of the stack.
use Rattle.std.specs.Prelude.{ℕ, zero, suc, ◌+◌, ◌-◌, ◌*◌, ◌/◌, ◌%◌, List, [], ◌∷◌, ◌++◌, length, drop, replicate, fold, slice_index, Bool, true, nat_le, nat_lt, ◌&&◌, ◌||◌, if◌then◌else◌}
use Rattle.css_semantics.specs.Dialogue.{Action, Tape}
use Rattle.css_semantics.specs.Actions.{Access, Enters, Leaves, Loads, Stores, Allots, NoAccess, access_of}
use Rattle.css_semantics.specs.declared.TheConstants.{STACK_LIMIT}
use Rattle.css_semantics.specs.Worlds.{state_after}

-- the value of big-endian bytes
abbrev pub big_endian : List ℕ → ℕ
big_endian bytes = fold (λ value byte. 256 * value + byte) 0 bytes

-- the low bytes of a number, so many, big-endian
abbrev pub big_endian_bytes : ℕ → ℕ → List ℕ
big_endian_bytes zero n = []
big_endian_bytes (suc width) n = big_endian_bytes width (n / 256) ++ n % 256 ∷ []

-- a number at the next multiple of a step
abbrev pub rounded_up : ℕ → ℕ → ℕ
rounded_up step n = (n + (step - 1)) / step * step

-- how many bytes a stack may have, and how many calls may be open
pub record StackLimit : Type 0 where
  pub bytes : ℕ
  pub calls : ℕ

-- The bytes of the globals from the first one on, of the heap up to its top, and of the stack, which ends at the memory's end; how
-- many calls are open; and the stack's limit.
pub record Memory : Type 0 where
  pub globals : List ℕ
  pub heap : List ℕ
  pub stack : List ℕ
  pub end : ℕ
  pub calls : ℕ
  pub limit : StackLimit

-- ---- the layout

-- the address of the first global
abbrev pub first_global : ℕ
first_global = 4096

abbrev pub globals_end : Memory → ℕ
globals_end m = first_global + length m.globals

abbrev pub heap_start : Memory → ℕ
heap_start m = rounded_up 16 (globals_end m)

abbrev pub heap_top : Memory → ℕ
heap_top m = heap_start m + length m.heap

-- the address of the stack's first byte
abbrev pub stack_place : Memory → ℕ
stack_place m = m.end - length m.stack

-- ---- the heap

-- the heap ends where the stack of an erased program may begin
abbrev pub heap_end : Memory → ℕ
heap_end m = m.end - STACK_LIMIT

-- the heap has room for so many bytes more, at the next multiple of 16
abbrev pub has_heap : Memory → (size : ℕ) → Bool
has_heap m size = nat_lt 0 size && nat_le (heap_top m + rounded_up 16 size) (heap_end m)

-- the memory with so many zeros more at the heap's top, if there is room
abbrev pub with_heap : Memory → (size : ℕ) → Memory
with_heap m size = if has_heap m size then record m { heap = m.heap ++ replicate (rounded_up 16 size) 0 } else m

-- ---- accesses

-- of so many bytes from an address, each has a property
abbrev pub all_from : (ℕ → Bool) → (address width : ℕ) → Bool
all_from test address zero = true
all_from test address (suc width) = test address && all_from test (address + 1) width

abbrev pub is_between : (from to address : ℕ) → Bool
is_between from to address = nat_le from address && nat_lt address to

abbrev pub is_live_byte : Memory → ℕ → Bool
is_live_byte m address =
    is_between first_global (globals_end m) address
    || (is_between (heap_start m) (heap_top m) address || is_between (stack_place m) m.end address)

-- so many bytes from an address are live
abbrev pub is_live : Memory → (address width : ℕ) → Bool
is_live m address width = all_from (is_live_byte m) address width

-- the byte at a live address
abbrev pub byte_at : Memory → ℕ → ℕ
byte_at m address =
    if is_between first_global (globals_end m) address then slice_index m.globals (address - first_global)
    else (if is_between (heap_start m) (heap_top m) address then slice_index m.heap (address - heap_start m)
    else slice_index m.stack (address - stack_place m))

-- the bytes from a live address
abbrev pub bytes_at : Memory → (address width : ℕ) → List ℕ
bytes_at m address zero = []
bytes_at m address (suc width) = byte_at m address ∷ bytes_at m (address + 1) width

-- bytes that begin at an address, with what is stored from another address on in their place
abbrev pub overlaid : (from : ℕ) (bytes : List ℕ) (address : ℕ) (new : List ℕ) → List ℕ
overlaid from [] address new = []
overlaid from (b ∷ bytes) address new =
    (if is_between address (address + length new) from then slice_index new (from - address) else b)
    ∷ overlaid (from + 1) bytes address new

-- the memory after bytes are stored from a live address on
abbrev pub stored : Memory → (address : ℕ) (new : List ℕ) → Memory
stored m address new = record m {
  globals = overlaid first_global m.globals address new;
  heap = overlaid (heap_start m) m.heap address new;
  stack = overlaid (stack_place m) m.stack address new;
}

-- ---- what actions do

-- what an action does to the memory: an entry adds a frame of zeros below the stack place, a leaving takes it away, a store that isn't
-- wholly live changes nothing, and zeros are added to the heap where there is room
abbrev pub accessed : Memory → Access → Memory
accessed m (Enters size) = record m { stack = replicate size 0 ++ m.stack; calls = m.calls + 1 }
accessed m (Leaves base size) = record m { stack = drop size m.stack; calls = m.calls - 1 }
accessed m (Loads address width) = m
accessed m (Stores address bytes) = if is_live m address (length bytes) then stored m address bytes else m
accessed m (Allots size) = with_heap m size
accessed m NoAccess = m

abbrev pub after : Memory → Action → Memory
after m action = accessed m (access_of action)

-- the memory after a tape, from the one before main's entry
abbrev pub memory_after : Memory → Tape → Memory
memory_after start tape = state_after after start tape

-- all live bytes, in order of address
abbrev pub image : Memory → List ℕ
image m = m.globals ++ (m.heap ++ m.stack)
