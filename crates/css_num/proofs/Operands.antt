-- What may stand on the right of an operator.
use Rattle.std.proofs.Common.{ℤ, arith}
use borrow.Author.Differences.{at_most_in, le_out}
use Rattle.css_base.specs.declared.int_type.IntType.{IntType}
use Rattle.css_base.specs.declared.int_type.IntType.TheVariants.{LongLong, ULongLong}
use Rattle.css_num.specs.declared.operators.BinOp.{BinOp}
use Rattle.css_num.specs.declared.operators.BinOp.TheVariants.{Shl, Shr}
use Rattle.css_num.specs.Types.{least, greatest, IsInRange}
use Rattle.css_num.specs.Operators.{IsShiftCount, IsRightOperand}
use Rattle.css_num.proofs.Ranges.{span}

-- a value of any type is the count of a shift
pub shift_count : (s : IntType) (b : ℤ) → IsInRange s b → IsShiftCount b
shift_count s b h = record {
  at_least = at_most_in (least LongLong) b (omega (arith, span s, le_out (least s) b h.at_least));
  at_most = at_most_in b (greatest ULongLong) (omega (arith, span s, le_out b (greatest s) h.at_most));
}

-- a value of the operator's type may stand on the right of each
pub right_operand : (op : BinOp) (t : IntType) (b : ℤ) → IsInRange t b → IsRightOperand op t b
right_operand Shl t b h = shift_count t b h
right_operand Shr t b h = shift_count t b h
right_operand _ t b h = h
