-- The instructions of operators, loads, stores and conversions, by their types and by what is taken of the value.
use Rattle.std.specs.Prelude.{pos, Bool, true, false, not, ◌&&◌, ◌||◌, nat_le, nat_lt, List, [], ◌∷◌, ◌++◌, if◌then◌else◌}
use Rattle.css_base.specs.declared.int_type.IntType.{IntType}
use Rattle.css_base.specs.declared.int_type.IntType.TheVariants.{UChar, SChar, Short, UShort, Int, UInt, Long, ULong, LongLong, ULongLong}
use Rattle.css_num.specs.declared.operators.UnOp.{UnOp}
use Rattle.css_num.specs.declared.operators.UnOp.TheVariants as unary
use Rattle.css_num.specs.declared.operators.BinOp.{BinOp}
use Rattle.css_num.specs.declared.operators.BinOp.TheVariants as binary
use Rattle.css_num.specs.Types.{bits_of, has_sign}
use Rattle.css_num.specs.Operators.{binary_type, is_division}
use Rattle.css_isa.specs.declared.code.Op.{Op}
use Rattle.css_isa.specs.declared.code.Op.TheVariants as ops
use Rattle.css_isa.specs.declared.code.ShiftWidth.{ShiftWidth}
use Rattle.css_isa.specs.declared.code.ShiftWidth.TheVariants as shifts
use Rattle.css_isa.specs.declared.code.Narrow.TheVariants as narrows
use Rattle.css_gen_expr.specs.declared.aim.Aim.{Aim}
use Rattle.css_gen_expr.specs.declared.aim.Aim.TheVariants.{Used, Tested, Low, Unused}
use Rattle.css_gen_expr.specs.Ranges.{contains}

-- ---- what is taken of a value

-- the same, where a test takes the value
abbrev pub plainly : Aim → Aim
plainly Used = Used
plainly Tested = Used
plainly Low = Low
plainly Unused = Unused

abbrev pub low_if : Bool → Aim
low_if b = if b then Low else Used

-- behind instructions that leave a cell
abbrev pub ending : Aim → List Op
ending Used = []
ending Tested = []
ending Low = []
ending Unused = ops.Drop ∷ []

-- instructions without effect, which leave a cell
abbrev pub only_for : Aim → List Op → List Op
only_for Used code = code
only_for Tested code = code
only_for Low code = code
only_for Unused code = []

-- what makes the value of a cell whose low 32 bits are the value's; and of one that is dropped
abbrev pub exact : Aim → List Op → List Op
exact Used code = code
exact Tested code = code
exact Low code = []
exact Unused code = ops.Drop ∷ []

-- ---- types

-- a cell's low bits as a value of the type; with 64 bits it is one
abbrev pub narrowing : IntType → List Op
narrowing UChar = ops.Conv narrows.U8 ∷ []
narrowing SChar = ops.Conv narrows.S8 ∷ []
narrowing Short = ops.Conv narrows.S16 ∷ []
narrowing UShort = ops.Conv narrows.U16 ∷ []
narrowing Int = ops.Conv narrows.S32 ∷ []
narrowing UInt = ops.Conv narrows.U32 ∷ []
narrowing Long = ops.Conv narrows.S32 ∷ []
narrowing ULong = ops.Conv narrows.U32 ∷ []
narrowing LongLong = []
narrowing ULongLong = []

abbrev pub load_of : IntType → Op
load_of UChar = ops.Load8u
load_of SChar = ops.Load8s
load_of Short = ops.Load16s
load_of UShort = ops.Load16u
load_of Int = ops.Load32s
load_of UInt = ops.Load32u
load_of Long = ops.Load32s
load_of ULong = ops.Load32u
load_of LongLong = ops.Load64
load_of ULongLong = ops.Load64

abbrev pub store_of : IntType → Op
store_of UChar = ops.Store8
store_of SChar = ops.Store8
store_of Short = ops.Store16
store_of UShort = ops.Store16
store_of Int = ops.Store32
store_of UInt = ops.Store32
store_of Long = ops.Store32
store_of ULong = ops.Store32
store_of LongLong = ops.Store64
store_of ULongLong = ops.Store64

-- the low 32 bits are all, and these are in the low 32 bits
abbrev pub is_wide : IntType → Bool
is_wide t = nat_le 32 (bits_of t)

abbrev pub is_narrow : IntType → Bool
is_narrow t = nat_le (bits_of t) 32

-- ---- conversions

-- a conversion of a value that is in the type's range, or not seen to be
abbrev pub keeps : IntType → (is_within : Bool) → Bool
keeps t is_within = is_within || nat_lt 32 (bits_of t)

abbrev pub conversion_takes : Aim → IntType → (is_within : Bool) → Aim
conversion_takes Used t is_within = if keeps t is_within then Used else Low
conversion_takes Tested t is_within = if keeps t is_within then Used else Low
conversion_takes Low t is_within = Low
conversion_takes Unused t is_within = Unused

abbrev pub conversion_code : Aim → IntType → (is_within : Bool) → List Op
conversion_code Used t is_within = if keeps t is_within then [] else narrowing t
conversion_code Tested t is_within = if keeps t is_within then [] else narrowing t
conversion_code Low t is_within = if is_within || is_wide t then [] else narrowing t
conversion_code Unused t is_within = []

-- ---- tests

abbrev pub is_zero : List Op
is_zero = ops.Push (pos 0) ∷ ops.Eq ∷ []

abbrev pub isnt_zero : List Op
isnt_zero = ops.Push (pos 0) ∷ ops.Ne ∷ []

-- ---- unary operators

-- whose result is modulo 2 to the type's bits
abbrev pub unary_wraps : UnOp → IntType → Bool
unary_wraps unary.Plus t = false
unary_wraps unary.Minus t = true
unary_wraps unary.Complement t = not (has_sign t)
unary_wraps unary.Not t = false

abbrev pub unary_operation : UnOp → List Op
unary_operation unary.Plus = []
unary_operation unary.Minus = ops.Neg ∷ []
unary_operation unary.Complement = ops.Not ∷ []
unary_operation unary.Not = is_zero

abbrev pub unary_takes : Aim → UnOp → IntType → Aim
unary_takes Used op t = low_if (unary_wraps op t && is_narrow t)
unary_takes Tested op t = low_if (unary_wraps op t && is_narrow t)
unary_takes Low op t = Low
unary_takes Unused op t = Unused

abbrev pub unary_code : Aim → UnOp → IntType → List Op
unary_code Used op t = unary_operation op ++ (if unary_wraps op t then narrowing t else [])
unary_code Tested op t = unary_operation op ++ (if unary_wraps op t then narrowing t else [])
unary_code Low op t = unary_operation op ++ (if unary_wraps op t && not (is_wide t) then narrowing t else [])
unary_code Unused op t = []

-- ---- binary operators

-- sums, differences, products and shifts to the left: the low bits of the operands make those of the result, which wraps
abbrev pub is_sum : BinOp → Bool
is_sum binary.Mul = true
is_sum binary.Div = false
is_sum binary.Rem = false
is_sum binary.Add = true
is_sum binary.Sub = true
is_sum binary.Shl = true
is_sum binary.Shr = false
is_sum binary.Lt = false
is_sum binary.Gt = false
is_sum binary.Le = false
is_sum binary.Ge = false
is_sum binary.Eq = false
is_sum binary.Ne = false
is_sum binary.And = false
is_sum binary.Xor = false
is_sum binary.Or = false

abbrev pub is_bitwise : BinOp → Bool
is_bitwise binary.Mul = false
is_bitwise binary.Div = false
is_bitwise binary.Rem = false
is_bitwise binary.Add = false
is_bitwise binary.Sub = false
is_bitwise binary.Shl = false
is_bitwise binary.Shr = false
is_bitwise binary.Lt = false
is_bitwise binary.Gt = false
is_bitwise binary.Le = false
is_bitwise binary.Ge = false
is_bitwise binary.Eq = false
is_bitwise binary.Ne = false
is_bitwise binary.And = true
is_bitwise binary.Xor = true
is_bitwise binary.Or = true

-- the low 32 bits of the operands are enough
abbrev pub takes_low : (is_low : Bool) → BinOp → IntType → Bool
takes_low is_low op t = (is_sum op && (is_narrow t || is_low)) || (is_bitwise op && (is_wide t && is_low))

-- the count of a shift, which an instruction takes modulo 32 or 64
abbrev pub shift_width : IntType → ShiftWidth
shift_width t = if nat_lt 32 (bits_of t) then shifts.W64 else shifts.W32

abbrev pub counting : IntType → List Op
counting UChar = ops.Push (pos 7) ∷ ops.And ∷ []
counting SChar = ops.Push (pos 7) ∷ ops.And ∷ []
counting Short = ops.Push (pos 15) ∷ ops.And ∷ []
counting UShort = ops.Push (pos 15) ∷ ops.And ∷ []
counting Int = []
counting UInt = []
counting Long = []
counting ULong = []
counting LongLong = []
counting ULongLong = []

abbrev pub below : IntType → Op
below t = if has_sign t then ops.Lts else ops.Ltu

abbrev pub operation : BinOp → IntType → List Op
operation binary.Mul t = ops.Mul ∷ []
operation binary.Div t = if has_sign t then ops.Divs ∷ [] else ops.Divu ∷ []
operation binary.Rem t = if has_sign t then ops.Rems ∷ [] else ops.Remu ∷ []
operation binary.Add t = ops.Add ∷ []
operation binary.Sub t = ops.Sub ∷ []
operation binary.Shl t = counting t ++ ops.Shl (shift_width t) ∷ []
operation binary.Shr t = counting t ++ (if has_sign t then ops.Shrs (shift_width t) ∷ [] else ops.Shru (shift_width t) ∷ [])
operation binary.Lt t = below t ∷ []
operation binary.Gt t = ops.Swap ∷ below t ∷ []
operation binary.Le t = ops.Swap ∷ below t ∷ is_zero
operation binary.Ge t = below t ∷ is_zero
operation binary.Eq t = ops.Eq ∷ []
operation binary.Ne t = ops.Ne ∷ []
operation binary.And t = ops.And ∷ []
operation binary.Xor t = ops.Xor ∷ []
operation binary.Or t = ops.Or ∷ []

-- what an operation may leave out of the type's range
abbrev pub wraps : BinOp → IntType → Bool
wraps binary.Div t = has_sign t
wraps op t = is_sum op || (is_bitwise op && not (is_wide t))

-- with the value's cell, or with its low 32 bits
abbrev pub operated : (is_low : Bool) → BinOp → IntType → List Op
operated is_low op t = operation op t ++ (if wraps op t && not (is_low && is_wide t) then narrowing t else [])

-- a comparison whose instruction gives the opposite, as a test
abbrev pub turned_op : BinOp → Bool
turned_op binary.Mul = false
turned_op binary.Div = false
turned_op binary.Rem = false
turned_op binary.Add = false
turned_op binary.Sub = false
turned_op binary.Shl = false
turned_op binary.Shr = false
turned_op binary.Lt = false
turned_op binary.Gt = false
turned_op binary.Le = true
turned_op binary.Ge = true
turned_op binary.Eq = false
turned_op binary.Ne = false
turned_op binary.And = false
turned_op binary.Xor = false
turned_op binary.Or = false

abbrev pub straight : BinOp → BinOp
straight binary.Le = binary.Gt
straight binary.Ge = binary.Lt
straight op = op

abbrev pub is_comparison : BinOp → Bool
is_comparison binary.Mul = false
is_comparison binary.Div = false
is_comparison binary.Rem = false
is_comparison binary.Add = false
is_comparison binary.Sub = false
is_comparison binary.Shl = false
is_comparison binary.Shr = false
is_comparison binary.Lt = true
is_comparison binary.Gt = true
is_comparison binary.Le = true
is_comparison binary.Ge = true
is_comparison binary.Eq = true
is_comparison binary.Ne = true
is_comparison binary.And = false
is_comparison binary.Xor = false
is_comparison binary.Or = false

-- without a cell, only a division has to be done
abbrev pub binary_takes : Aim → BinOp → IntType → Aim
binary_takes Used op t = low_if (takes_low false op t)
binary_takes Tested op t = low_if (takes_low false op t)
binary_takes Low op t = low_if (takes_low true op t)
binary_takes Unused op t = if is_division op then Used else Unused

abbrev pub binary_code : Aim → BinOp → IntType → List Op
binary_code Used op t = operated false op t
binary_code Tested op t = operated false (straight op) t
binary_code Low op t = operated true op t
binary_code Unused op t = if is_division op then operated true op t ++ ops.Drop ∷ [] else []

-- ---- assignments

-- what a store takes of the value that is assigned
abbrev pub assignment_takes : Aim → IntType → Aim
assignment_takes Used t = Used
assignment_takes Tested t = Used
assignment_takes Low t = low_if (is_narrow t)
assignment_takes Unused t = low_if (is_narrow t)

-- Whether the low 32 bits of an update's result are enough: where the old value is given or none is, and the type has at most 32 bits;
-- and where the low 32 bits of the new value are taken and it has as many.
abbrev pub is_stored_low : (gives_old : Bool) → Aim → IntType → Bool
is_stored_low gives_old Used t = gives_old && is_narrow t
is_stored_low gives_old Tested t = gives_old && is_narrow t
is_stored_low gives_old Low t = is_narrow t && (gives_old || is_wide t)
is_stored_low gives_old Unused t = is_narrow t

abbrev pub update_takes : (is_low : Bool) → BinOp → (within : IntType) → Aim
update_takes is_low op within = low_if (takes_low is_low op within)

-- what was loaded as a value of the operator's type
abbrev pub old_code : (is_low : Bool) → BinOp → (t within : IntType) → List Op
old_code is_low op t within = if contains within t || (takes_low is_low op within && is_wide within) then [] else narrowing within

-- what is stored of the result
abbrev pub new_code : (is_low : Bool) → BinOp → (t within : IntType) → List Op
new_code is_low op t within = operated is_low op within ++ (if is_low || contains t (binary_type op within) then [] else narrowing t)
