-- Values of constant expressions (C99 6.6). The value of an operand goes with it, so no tree is walked twice.
use Rattle.std.specs.Prelude.{Bool, true, false, not, ℤ, pos, if◌then◌else◌, Option, Some, None}
use Rattle.std.specs.Ordering.{int_eq}
use Rattle.css_base.specs.declared.int_type.IntType.{IntType}
use Rattle.css_num.specs.declared.operators.UnOp.{UnOp}
use Rattle.css_num.specs.declared.operators.BinOp.{BinOp}
use Rattle.css_num.specs.Conversion.{converted}
use Rattle.css_num.specs.Operators.{truth_value, unary_value, binary_value}

-- no constant expression, one whose evaluation divides by zero, or its value
pub data Constant : Type 0 where
  Varies : Constant
  Faults : Constant
  Known : (value : ℤ) → Constant

abbrev pub constant_in : IntType → Constant → Constant
constant_in t (Known v) = Known (converted t v)
constant_in t k = k

-- an operator with an operand that was promoted to this type
abbrev pub constant_unary : UnOp → IntType → Constant → Constant
constant_unary op t (Known v) = Known (unary_value op t (converted t v))
constant_unary op t k = k

abbrev pub unless_fault : Option ℤ → Constant
unless_fault (Some v) = Known v
unless_fault None = Faults

-- an operator between operands that were converted to these types
abbrev pub constant_binary : BinOp → (left right : IntType) → Constant → Constant → Constant
constant_binary op left right Varies k = Varies
constant_binary op left right Faults Varies = Varies
constant_binary op left right Faults k = Faults
constant_binary op left right (Known v) (Known w) = unless_fault (binary_value op left (converted left v) (converted right w))
constant_binary op left right (Known v) k = k

abbrev pub is_zero : Constant → Bool
is_zero (Known v) = int_eq v (pos 0)
is_zero k = false

-- a value as 0 or 1
abbrev pub constant_test : Constant → Constant
constant_test (Known v) = Known (truth_value (not (int_eq v (pos 0))))
constant_test k = k

-- `a || b` is decided by a left side that isn't zero, and `a && b` by one that is. A right side that isn't evaluated has to be constant, and
-- may divide by zero.
abbrev pub decided : (by : Bool) → Constant → Constant → Constant
decided by Varies k = Varies
decided by k Varies = Varies
decided true (Known v) k = if int_eq v (pos 0) then constant_test k else Known (pos 1)
decided false (Known v) k = if int_eq v (pos 0) then Known (pos 0) else constant_test k
decided by Faults k = Faults

-- `c ? a : b`, where the side that isn't evaluated may divide by zero
abbrev pub chosen : Constant → Constant → Constant → Constant
chosen Varies j k = Varies
chosen i Varies k = Varies
chosen i j Varies = Varies
chosen Faults j k = Faults
chosen (Known v) j k = if is_zero (Known v) then k else j
