-- When the bytes that code keeps for a task's windows are what the windows have.
use Rattle.std.specs.Prelude.{◌≡◌, ℕ, ◌+◌, ◌-◌, ◌*◌, ◌<◌, ◌≤◌, ◌⊎◌, Bool, true, false, not, List, [], ◌∷◌, length, Some, slice_get, slice_index}
use Rattle.css_semantics.specs.Tasks.{Use, writes}
use Rattle.css_task.specs.OffsetSets.{has_bit}
use Rattle.css_task.specs.Cells.{addresses, flags, Kept}

-- the task may not write the window
abbrev pub is_fixed : Use → Bool
is_fixed u = not (writes u.direction)

-- the byte at an offset is one of a window that the task may not write
abbrev pub IsFixed : List Use → (offset : ℕ) → Type 0
IsFixed uses offset = slice_get (flags is_fixed uses) offset ≡ Some true

-- two offsets of one address: they are one, or none is written, and both have the same byte
abbrev pub Agree : List Use → (bytes : List ℕ) → (i k : ℕ) → Type 0
Agree uses bytes i k = (i ≡ k) ⊎ (IsFixed uses i × IsFixed uses k × (slice_index bytes i ≡ slice_index bytes k))

-- The windows have as many bytes as are kept, and none in the stack, which takes the 16,384 bytes up to its end; bytes at one address
-- agree; and those that are yet to be written are of windows that may be, and none stands behind the last byte.
pub record AreKept (uses : List Use) (end : ℕ) (bytes words : List ℕ) : Type 0 where
  pub long : length bytes ≡ length (addresses uses)
  pub room : length (addresses uses) ≤ 64 * length words
  pub clear : (k at : ℕ) → slice_get (addresses uses) k ≡ Some at → (at < end - 16384) ⊎ (end ≤ at)
  pub agree : (i k at : ℕ) → slice_get (addresses uses) i ≡ Some at → slice_get (addresses uses) k ≡ Some at → Agree uses bytes i k
  pub known : (k : ℕ) → IsFixed uses k → has_bit words k ≡ false
  pub none : (k : ℕ) → length (addresses uses) ≤ k → has_bit words k ≡ false

-- whether the byte of each address is in a set of offsets, the first of which is this one
abbrev pub listed : (ℕ → Bool) → (from : ℕ) → (addresses : List ℕ) → List Bool
listed has from [] = []
listed has from (a ∷ all) = has from ∷ listed has (from + 1) all

-- the memory that code keeps
abbrev pub kept : (uses : List Use) (end : ℕ) (stack frames bytes words : List ℕ) → Kept
kept uses end stack frames bytes words = record {
  uses = uses;
  place = end;
  stack = stack;
  frames = frames;
  bytes = bytes;
  unwritten = listed (has_bit words) 0 (addresses uses);
}
