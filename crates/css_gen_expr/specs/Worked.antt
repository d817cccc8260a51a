-- Worked code: the instructions of some expressions, as lists of pieces.
use Rattle.std.specs.Prelude.{pos, List, [], ◌∷◌}
use Rattle.css_base.specs.declared.int_type.IntType.TheVariants.{Int, UInt}
use Rattle.css_num.specs.declared.operators.UnOp.TheVariants as unary
use Rattle.css_num.specs.declared.operators.BinOp.TheVariants as binary
use Rattle.css_core.specs.Core.{Expression, Number, Local, Value, Assign, Convert, Unary, Binary, And, Old, Update}
use Rattle.css_isa.specs.declared.code.Op.TheVariants as ops
use Rattle.css_isa.specs.declared.code.Narrow.TheVariants as narrows
use Rattle.css_blocks.specs.declared.part.Way.TheVariants.{Breaks}
use Rattle.css_blocks.specs.Pieces.{Piece, Do, Unless}
use Rattle.css_gen_expr.specs.Calls.{value, unused, unless}

-- ints of the frame, and a pointer to ints
abbrev i : Expression
i = Value Int (Local 0)

abbrev n : Expression
n = Value Int (Local 8)

abbrev pointer : Expression
pointer = Value UInt (Local 16)

abbrev int : Expression → Expression
int e = Convert Int e

-- `i = n + 1;`
abbrev pub sets : List Piece
sets = unused [] 1 (Assign Int (Local 0) (int (Binary binary.Add Int (int n) (int (Number (pos 1))))))

abbrev pub sets_code : List Piece
sets_code = Do 1 (ops.Frame 0) ∷ Do 1 (ops.Frame 8) ∷ Do 1 ops.Load32s ∷ Do 1 (ops.Push (pos 1)) ∷ Do 1 ops.Add ∷ Do 1 ops.Store32 ∷ Do 1 ops.Drop ∷ []

-- `i++;`
abbrev pub steps : List Piece
steps = unused [] 1 (Update Old Int binary.Add Int (Local 0) (int (Number (pos 1))))

abbrev pub steps_code : List Piece
steps_code = Do 1 (ops.Frame 0) ∷ Do 1 (ops.Dup 0) ∷ Do 1 ops.Load32s ∷ Do 1 (ops.Push (pos 1)) ∷ Do 1 ops.Add ∷ Do 1 ops.Store32 ∷ Do 1 ops.Drop ∷ []

-- `p[i]`, whose value is used
abbrev pub element : List Piece
element = value [] 1 (Value Int (Binary binary.Add UInt pointer (Binary binary.Mul UInt (Convert UInt i) (Number (pos 4)))))

abbrev pub element_code : List Piece
element_code =
    Do 1 (ops.Frame 16) ∷ Do 1 ops.Load32u ∷ Do 1 (ops.Frame 0) ∷ Do 1 ops.Load32s ∷ Do 1 (ops.Push (pos 4)) ∷ Do 1 ops.Mul ∷ Do 1 ops.Add ∷ Do 1 ops.Load32s ∷ []

-- `i + n`, whose value is used
abbrev pub sum : List Piece
sum = value [] 1 (Binary binary.Add Int (int i) (int n))

abbrev pub sum_code : List Piece
sum_code = Do 1 (ops.Frame 0) ∷ Do 1 ops.Load32s ∷ Do 1 (ops.Frame 8) ∷ Do 1 ops.Load32s ∷ Do 1 ops.Add ∷ Do 1 (ops.Conv narrows.S32) ∷ []

-- `i < n && !(i >= 9)` in front of a loop
abbrev pub condition : List Piece
condition = unless [] 1 Breaks (And (Binary binary.Lt Int (int i) (int n)) (Unary unary.Not Int (Binary binary.Ge Int (int i) (int (Number (pos 9))))))

abbrev pub condition_code : List Piece
condition_code =
    Do 1 (ops.Frame 0) ∷ Do 1 ops.Load32s ∷ Do 1 (ops.Frame 8) ∷ Do 1 ops.Load32s ∷ Do 1 ops.Lts ∷ Unless 1 Breaks
    ∷ Do 1 (ops.Frame 0) ∷ Do 1 ops.Load32s ∷ Do 1 (ops.Push (pos 9)) ∷ Do 1 ops.Lts ∷ Unless 1 Breaks ∷ []
