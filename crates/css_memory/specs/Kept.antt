-- A memory as the code keeps it: the bytes from the first global up to the heap's top, and those of the stack.
use Rattle.std.specs.Prelude.{◌≡◌, ◌≤◌, ◌<◌, ◌^◌, ℕ, ◌+◌, ◌-◌, ◌*◌, List, length, take, drop, Bool, ◌&&◌, nat_lt}
use Rattle.css_semantics.specs.declared.TheConstants.{STACK_LIMIT}
use Rattle.css_semantics.specs.Memory.{Memory, first_global, rounded_up}

-- the low bytes, of which the globals end at one address and the heap begins at another; and the high ones, which begin at an address
-- and are live from an index on
pub record Parts : Type 0 where
  pub low : List ℕ
  pub globals_end : ℕ
  pub heap_start : ℕ
  pub high : List ℕ
  pub origin : ℕ
  pub start : ℕ

abbrev pub top_of : Parts → ℕ
top_of p = first_global + length p.low

abbrev pub place_of : Parts → ℕ
place_of p = p.origin + p.start

abbrev pub end_of : Parts → ℕ
end_of p = p.origin + length p.high

-- the memory that they are, with so many open calls, of which there may be this many
abbrev pub kept : Parts → (calls most : ℕ) → Memory
kept p calls most = record {
  globals = take (p.globals_end - first_global) p.low;
  heap = drop (p.heap_start - first_global) p.low;
  stack = drop p.start p.high;
  end = end_of p;
  calls = calls;
  limit = record { bytes = length p.high; calls = most };
}

-- The heap begins behind the globals. Below the memory's end there is room for an erased program's stack above the heap's top, and the
-- high bytes are no more than that. There is room for the low ones up to the heap's end, and there are so many pages.
pub record IsKept (p : Parts) (reserved count : ℕ) : Type 0 where
  pub globals : first_global ≤ p.globals_end
  pub heap_start : p.heap_start ≡ rounded_up 16 p.globals_end
  pub heap : p.heap_start ≤ top_of p
  pub room : top_of p + STACK_LIMIT ≤ end_of p
  pub limit : length p.high ≤ STACK_LIMIT
  pub start : p.start ≤ length p.high
  pub end : end_of p < 2 ^ 32
  pub capacity : end_of p ≤ first_global + STACK_LIMIT + reserved
  pub pages : end_of p ≤ 4096 * count

-- bytes up to an address meet a gap, from one address up to another
abbrev pub meets_gap : (first end from to : ℕ) → Bool
meets_gap first end from to = nat_lt first end && (nat_lt from end && nat_lt first to)
