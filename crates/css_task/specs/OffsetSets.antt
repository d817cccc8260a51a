-- Finite sets of offsets, one bit each.
use Rattle.std.specs.Prelude.{ℕ, zero, suc, ◌/◌, ◌%◌, Bool, List, slice_index, ◌==◌, if◌then◌else◌}
use Rattle.std.specs.Int.{bit_at}

-- the bit of an offset, 64 in a word
abbrev pub has_bit : (words : List ℕ) → ℕ → Bool
has_bit words offset = bit_at (slice_index words (offset / 64)) (offset % 64) == 1

-- how many offsets below a bound are in the set
abbrev pub members : (ℕ → Bool) → (bound : ℕ) → ℕ
members has zero = 0
members has (suc n) = if has n then suc (members has n) else members has n
