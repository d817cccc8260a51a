-- The integer types: bits, signs, ranks and ranges.
use Rattle.std.specs.Prelude.{ℕ, ◌-◌, ◌^◌, Bool, true, false, ℤ, pos, neg_ℤ, ◌≤ℤ◌, if◌then◌else◌}
use Rattle.css_base.specs.declared.int_type.IntType.{IntType}
use Rattle.css_base.specs.declared.int_type.IntType.TheVariants.{UChar, SChar, Short, UShort, Int, UInt, Long, ULong, LongLong, ULongLong}

abbrev pub bits_of : IntType → ℕ
bits_of UChar = 8
bits_of SChar = 8
bits_of Short = 16
bits_of UShort = 16
bits_of Int = 32
bits_of UInt = 32
bits_of Long = 32
bits_of ULong = 32
bits_of LongLong = 64
bits_of ULongLong = 64

abbrev pub has_sign : IntType → Bool
has_sign UChar = false
has_sign SChar = true
has_sign Short = true
has_sign UShort = false
has_sign Int = true
has_sign UInt = false
has_sign Long = true
has_sign ULong = false
has_sign LongLong = true
has_sign ULongLong = false

-- C99 6.3.1.1: ranks rise from char through short, int and long to long long
abbrev pub rank_of : IntType → ℕ
rank_of UChar = 1
rank_of SChar = 1
rank_of Short = 2
rank_of UShort = 2
rank_of Int = 3
rank_of UInt = 3
rank_of Long = 4
rank_of ULong = 4
rank_of LongLong = 5
rank_of ULongLong = 5

-- the unsigned type of the same rank
abbrev pub unsigned_kin : IntType → IntType
unsigned_kin UChar = UChar
unsigned_kin SChar = UChar
unsigned_kin Short = UShort
unsigned_kin UShort = UShort
unsigned_kin Int = UInt
unsigned_kin UInt = UInt
unsigned_kin Long = ULong
unsigned_kin ULong = ULong
unsigned_kin LongLong = ULongLong
unsigned_kin ULongLong = ULongLong

-- half of 2 to the type's bits: what the highest bit is worth
abbrev pub half_of : IntType → ℕ
half_of t = 2 ^ (bits_of t - 1)

abbrev pub least : IntType → ℤ
least t = if has_sign t then neg_ℤ (pos (half_of t)) else pos 0

abbrev pub greatest : IntType → ℤ
greatest t = if has_sign t then pos (half_of t - 1) else pos (2 ^ bits_of t - 1)

-- the type has the value v
pub record IsInRange (t : IntType) (v : ℤ) : Type 0 where
  pub at_least : least t ≤ℤ v
  pub at_most : v ≤ℤ greatest t
