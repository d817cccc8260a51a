-- Cells of 64 bits, and what instructions make of them.
use Rattle.std.specs.Prelude.{ℕ, ◌+◌, ◌-◌, ◌*◌, ◌/◌, ◌%◌, ◌^◌, ℤ, pos, Bool, true, false, not, nat_eq, nat_lt, int_lt, int_div, int_rem, List, [], ◌∷◌}
use Rattle.std.specs.Fmt.{digits, decimal, signed_decimal}
use Rattle.css_base.specs.declared.int_type.IntType.{IntType}
use Rattle.css_base.specs.declared.int_type.IntType.TheVariants as types
use Rattle.css_num.specs.Conversion.{modulo, represented, converted}
use Rattle.css_num.specs.Operators.{floor_quotient}
use Rattle.css_isa.specs.declared.code.ShiftWidth.{ShiftWidth}
use Rattle.css_isa.specs.declared.code.ShiftWidth.TheVariants as shifts
use Rattle.css_isa.specs.declared.code.Narrow.{Narrow}
use Rattle.css_isa.specs.declared.code.Narrow.TheVariants as narrows
use Rattle.css_isa.specs.declared.code.Conversion.{Conversion}
use Rattle.css_isa.specs.declared.code.Conversion.TheVariants as conversions

-- a number as a cell: its two's complement
abbrev pub cell_of : ℤ → ℕ
cell_of v = modulo v (2 ^ 64)

-- a cell with its sign
abbrev pub signed : ℕ → ℤ
signed a = represented types.LongLong a

-- a cell as an int of 32 bits
abbrev pub int_of : ℕ → ℤ
int_of a = converted types.Int (pos a)

-- a cell as an address, which has 32 bits
abbrev pub address_of : ℕ → ℕ
address_of a = a % 2 ^ 32

-- a number as a value of a type, extended to a cell
abbrev pub cell_as : IntType → ℕ → ℕ
cell_as t a = cell_of (converted t (pos a))

abbrev pub truth : Bool → ℕ
truth true = 1
truth false = 0

-- ---- arithmetic

abbrev pub sum_of : ℕ → ℕ → ℕ
sum_of a b = (a + b) % 2 ^ 64

abbrev pub difference_of : ℕ → ℕ → ℕ
difference_of a b = (a + (2 ^ 64 - b)) % 2 ^ 64

abbrev pub product_of : ℕ → ℕ → ℕ
product_of a b = (a * b) % 2 ^ 64

abbrev pub negative_of : ℕ → ℕ
negative_of a = difference_of 0 a

abbrev pub complement_of : ℕ → ℕ
complement_of a = 2 ^ 64 - 1 - a

-- the quotient toward zero of two cells with their signs, which wraps, and what it leaves
abbrev pub quotient_of : ℕ → ℕ → ℕ
quotient_of a b = cell_of (int_div (signed a) (signed b))

abbrev pub remainder_of : ℕ → ℕ → ℕ
remainder_of a b = cell_of (int_rem (signed a) (signed b))

-- the same without signs
abbrev pub unsigned_quotient_of : ℕ → ℕ → ℕ
unsigned_quotient_of a b = a / b

abbrev pub unsigned_remainder_of : ℕ → ℕ → ℕ
unsigned_remainder_of a b = a % b

-- ---- shifts

abbrev pub width_of : ShiftWidth → ℕ
width_of shifts.W32 = 32
width_of shifts.W64 = 64

abbrev pub shifted_left : ShiftWidth → ℕ → ℕ → ℕ
shifted_left n a b = (a * 2 ^ (b % width_of n)) % 2 ^ 64

abbrev pub shifted_right : ShiftWidth → ℕ → ℕ → ℕ
shifted_right n a b = cell_of (floor_quotient (signed a) (2 ^ (b % width_of n)))

abbrev pub unsigned_shifted_right : ShiftWidth → ℕ → ℕ → ℕ
unsigned_shifted_right n a b = a / 2 ^ (b % width_of n)

-- ---- comparisons

abbrev pub are_equal : ℕ → ℕ → ℕ
are_equal a b = truth (nat_eq a b)

abbrev pub differ : ℕ → ℕ → ℕ
differ a b = truth (not (nat_eq a b))

abbrev pub is_below : ℕ → ℕ → ℕ
is_below a b = truth (int_lt (signed a) (signed b))

abbrev pub is_unsigned_below : ℕ → ℕ → ℕ
is_unsigned_below a b = truth (nat_lt a b)

-- ---- conversions

abbrev pub type_of : Narrow → IntType
type_of narrows.U8 = types.UChar
type_of narrows.S8 = types.SChar
type_of narrows.U16 = types.UShort
type_of narrows.S16 = types.Short
type_of narrows.U32 = types.UInt
type_of narrows.S32 = types.Int

abbrev pub narrowed : Narrow → ℕ → ℕ
narrowed t a = cell_as (type_of t) a

-- the text that is written for a cell
abbrev pub text_of : Conversion → ℕ → List ℕ
text_of conversions.Char a = a % 256 ∷ []
text_of conversions.Signed a = signed_decimal (int_of a)
text_of conversions.Unsigned a = decimal (a % 2 ^ 32)
text_of conversions.Hexadecimal a = digits 16 false (a % 2 ^ 32)
text_of conversions.Wide a = signed_decimal (signed a)
