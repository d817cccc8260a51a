-- The types and values of the operators. The type t is the operands' after promotion and the usual conversions, and for a shift the promoted left one.
use Rattle.std.specs.Prelude.{ℕ, ◌/◌, ◌^◌, Bool, true, false, not, ℤ, pos, negsuc, ◌-ℤ◌, ◌*ℤ◌, ◌+ℤ◌, ◌≤ℤ◌, neg_ℤ, int_lt, int_le, int_div, bit_and, bit_or, bit_xor, if◌then◌else◌, Option, Some, None}
use Rattle.std.specs.Ordering.{int_eq}
use Rattle.css_base.specs.declared.int_type.IntType.{IntType}
use Rattle.css_base.specs.declared.int_type.IntType.TheVariants.{Int, LongLong, ULongLong}
use Rattle.css_num.specs.declared.operators.UnOp.{UnOp}
use Rattle.css_num.specs.declared.operators.UnOp.TheVariants as unary
use Rattle.css_num.specs.declared.operators.BinOp.{BinOp}
use Rattle.css_num.specs.declared.operators.BinOp.TheVariants as binary
use Rattle.css_num.specs.Types.{bits_of, least, greatest, IsInRange}
use Rattle.css_num.specs.Conversion.{modulo, representation, represented, converted}

-- what a comparison or `!` gives, an int
abbrev pub truth_value : Bool → ℤ
truth_value true = pos 1
truth_value false = pos 0

-- C99 6.5.5: the quotient toward zero, wrapped, and the remainder by a % b = a - (a / b) * b
abbrev pub quotient : IntType → ℤ → ℤ → ℤ
quotient t a b = converted t (int_div a b)

abbrev pub remainder : IntType → ℤ → ℤ → ℤ
remainder t a b = converted t (a -ℤ quotient t a b *ℤ b)

-- the count of a shift: modulo the width
abbrev pub count_of : IntType → ℤ → ℕ
count_of t b = modulo b (bits_of t)

abbrev pub shifted_left : IntType → ℤ → ℤ → ℤ
shifted_left t a b = converted t (a *ℤ pos (2 ^ count_of t b))

-- z / n rounded down: -(a + 1) / n is -(a / n + 1)
abbrev pub floor_quotient : ℤ → ℕ → ℤ
floor_quotient (pos a) n = pos (a / n)
floor_quotient (negsuc a) n = negsuc (a / n)

abbrev pub shifted_right : IntType → ℤ → ℤ → ℤ
shifted_right t a b = floor_quotient a (2 ^ count_of t b)

-- an operator on the bits of two representations
abbrev pub bitwise : (ℕ → ℕ → ℕ) → IntType → ℤ → ℤ → ℤ
bitwise f t a b = represented t (f (representation t a) (representation t b))

-- nothing where the divisor is zero
abbrev pub unless_zero : ℤ → ℤ → Option ℤ
unless_zero divisor v = if int_eq divisor (pos 0) then None else Some v

-- ---- the operators

abbrev pub unary_type : UnOp → IntType → IntType
unary_type unary.Not t = Int
unary_type _ t = t

abbrev pub unary_value : UnOp → IntType → ℤ → ℤ
unary_value unary.Plus t v = v
unary_value unary.Minus t v = converted t (neg_ℤ v)
unary_value unary.Complement t v = converted t (negsuc 0 -ℤ v)
unary_value unary.Not t v = truth_value (int_eq v (pos 0))

abbrev pub binary_type : BinOp → IntType → IntType
binary_type binary.Lt t = Int
binary_type binary.Gt t = Int
binary_type binary.Le t = Int
binary_type binary.Ge t = Int
binary_type binary.Eq t = Int
binary_type binary.Ne t = Int
binary_type _ t = t

abbrev pub binary_value : BinOp → IntType → ℤ → ℤ → Option ℤ
binary_value binary.Mul t a b = Some (converted t (a *ℤ b))
binary_value binary.Div t a b = unless_zero b (quotient t a b)
binary_value binary.Rem t a b = unless_zero b (remainder t a b)
binary_value binary.Add t a b = Some (converted t (a +ℤ b))
binary_value binary.Sub t a b = Some (converted t (a -ℤ b))
binary_value binary.Shl t a b = Some (shifted_left t a b)
binary_value binary.Shr t a b = Some (shifted_right t a b)
binary_value binary.Lt t a b = Some (truth_value (int_lt a b))
binary_value binary.Gt t a b = Some (truth_value (int_lt b a))
binary_value binary.Le t a b = Some (truth_value (int_le a b))
binary_value binary.Ge t a b = Some (truth_value (int_le b a))
binary_value binary.Eq t a b = Some (truth_value (int_eq a b))
binary_value binary.Ne t a b = Some (truth_value (not (int_eq a b)))
binary_value binary.And t a b = Some (bitwise bit_and t a b)
binary_value binary.Xor t a b = Some (bitwise bit_xor t a b)
binary_value binary.Or t a b = Some (bitwise bit_or t a b)

-- the divisor has to be tested
abbrev pub is_division : BinOp → Bool
is_division binary.Div = true
is_division binary.Rem = true
is_division _ = false

-- the count of a shift has a type of its own
pub record IsShiftCount (b : ℤ) : Type 0 where
  pub at_least : least LongLong ≤ℤ b
  pub at_most : b ≤ℤ greatest ULongLong

abbrev pub IsRightOperand : BinOp → IntType → ℤ → Type 0
IsRightOperand binary.Shl t b = IsShiftCount b
IsRightOperand binary.Shr t b = IsShiftCount b
IsRightOperand _ t b = IsInRange t b
