-- The listing of a code, line by line.
use Rattle.std.specs.Prelude.{◌≡◌, ℕ, ◌<◌, ◌≤◌, ◌^◌, ℤ, pos, negsuc, Bool, true, false, IsTrue, List, [], ◌∷◌, ◌++◌, codes, length, map, Option, Some, None}
use Rattle.std.specs.List.{flat_map, join_with_byte, AllByRecursion}
use Rattle.std.specs.Fmt.{decimal, signed_decimal}
use Rattle.hex.specs.Hex.{encode_lower, IsBytes}
use Rattle.css_base.specs.declared.direction.Direction.{Direction}
use Rattle.css_base.specs.declared.direction.Direction.TheVariants as directions
use Rattle.css_isa.specs.declared.code.Op.{Op}
use Rattle.css_isa.specs.declared.code.Op.TheVariants as ops
use Rattle.css_isa.specs.declared.code.Mark.{Mark}
use Rattle.css_isa.specs.declared.code.Mark.TheVariants as marks
use Rattle.css_isa.specs.declared.code.ShiftWidth.{ShiftWidth}
use Rattle.css_isa.specs.declared.code.ShiftWidth.TheVariants as shifts
use Rattle.css_isa.specs.declared.code.Narrow.{Narrow}
use Rattle.css_isa.specs.declared.code.Narrow.TheVariants as narrows
use Rattle.css_isa.specs.declared.code.Conversion.{Conversion}
use Rattle.css_isa.specs.declared.code.Conversion.TheVariants as conversions
use Rattle.css_isa.specs.declared.code.ArgShape.{ArgShape}
use Rattle.css_isa.specs.declared.code.ArgShape.TheVariants as shapes
use Rattle.css_isa.specs.declared.code.TaskShape.{TaskShape}
use Rattle.css_isa.specs.declared.code.Function.{Function}
use Rattle.css_isa.specs.declared.code.Code.{Code}
use Rattle.css_isa.specs.declared.space.Width.{Width}
use Rattle.css_isa.specs.declared.space.Width.TheVariants as widths
use Rattle.css_isa.specs.Names.{is_identifier}
use Rattle.css_listing.specs.declared.listing_line.ListingLine.{ListingLine}
use Rattle.css_listing.specs.declared.listing_line.ListingLine.TheVariants as lines

-- ---- the words of instructions

abbrev pub shift_word : ShiftWidth → List ℕ
shift_word shifts.W32 = codes "32"
shift_word shifts.W64 = codes "64"

abbrev pub narrow_word : Narrow → List ℕ
narrow_word narrows.U8 = codes "u8"
narrow_word narrows.S8 = codes "s8"
narrow_word narrows.U16 = codes "u16"
narrow_word narrows.S16 = codes "s16"
narrow_word narrows.U32 = codes "u32"
narrow_word narrows.S32 = codes "s32"

abbrev pub mark_word : Mark → List ℕ
mark_word marks.Start = codes "0"
mark_word marks.Finish = codes "1"
mark_word marks.Barrier = codes "2"
mark_word marks.Wait = codes "3"
mark_word marks.InWait = codes "4"
mark_word marks.InDimension = codes "5"
mark_word marks.Outside = codes "6"
mark_word marks.Started = codes "7"

abbrev pub out_word : Conversion → List ℕ
out_word conversions.Char = codes "c"
out_word conversions.Signed = codes "d"
out_word conversions.Unsigned = codes "u"
out_word conversions.Hexadecimal = codes "x"
out_word conversions.Wide = codes "q"

abbrev pub op_name : Op → List ℕ
op_name (ops.Push v) = codes "push"
op_name ops.Drop = codes "drop"
op_name (ops.Dup n) = codes "dup"
op_name ops.Swap = codes "swap"
op_name (ops.Frame k) = codes "frame"
op_name ops.Load8u = codes "load8u"
op_name ops.Load8s = codes "load8s"
op_name ops.Load16u = codes "load16u"
op_name ops.Load16s = codes "load16s"
op_name ops.Load32u = codes "load32u"
op_name ops.Load32s = codes "load32s"
op_name ops.Load64 = codes "load64"
op_name ops.Store8 = codes "store8"
op_name ops.Store16 = codes "store16"
op_name ops.Store32 = codes "store32"
op_name ops.Store64 = codes "store64"
op_name ops.Add = codes "add"
op_name ops.Sub = codes "sub"
op_name ops.Mul = codes "mul"
op_name ops.And = codes "and"
op_name ops.Or = codes "or"
op_name ops.Xor = codes "xor"
op_name ops.Neg = codes "neg"
op_name ops.Not = codes "not"
op_name ops.Divs = codes "divs"
op_name ops.Divu = codes "divu"
op_name ops.Rems = codes "rems"
op_name ops.Remu = codes "remu"
op_name (ops.Shl n) = codes "shl"
op_name (ops.Shrs n) = codes "shrs"
op_name (ops.Shru n) = codes "shru"
op_name ops.Eq = codes "eq"
op_name ops.Ne = codes "ne"
op_name ops.Lts = codes "lts"
op_name ops.Ltu = codes "ltu"
op_name (ops.Conv t) = codes "conv"
op_name (ops.Jump to) = codes "jump"
op_name (ops.Jumpz to) = codes "jumpz"
op_name (ops.Call k) = codes "call"
op_name ops.Ret = codes "ret"
op_name ops.Turn = codes "turn"
op_name (ops.Submit k) = codes "submit"
op_name (ops.Mark m) = codes "mark"
op_name (ops.Out c) = codes "out"
op_name ops.In = codes "in"
op_name ops.Malloc = codes "malloc"

-- the operand, where there is one
abbrev pub op_operand : Op → List (List ℕ)
op_operand (ops.Push v) = signed_decimal v ∷ []
op_operand (ops.Dup n) = decimal n ∷ []
op_operand (ops.Frame k) = decimal k ∷ []
op_operand (ops.Shl n) = shift_word n ∷ []
op_operand (ops.Shrs n) = shift_word n ∷ []
op_operand (ops.Shru n) = shift_word n ∷ []
op_operand (ops.Conv t) = narrow_word t ∷ []
op_operand (ops.Jump to) = decimal to ∷ []
op_operand (ops.Jumpz to) = decimal to ∷ []
op_operand (ops.Call k) = decimal k ∷ []
op_operand (ops.Submit k) = decimal k ∷ []
op_operand (ops.Mark m) = mark_word m ∷ []
op_operand (ops.Out c) = out_word c ∷ []
op_operand op = []

abbrev pub op_words : Op → List (List ℕ)
op_words op = op_name op ∷ op_operand op

-- ---- the words of tasks and functions

abbrev pub direction_word : Direction → List ℕ
direction_word directions.In = codes "in"
direction_word directions.Out = codes "out"
direction_word directions.InOut = codes "inout"

abbrev pub dims_word : (strided : Bool) (dims : ℕ) → List ℕ
dims_word true dims = codes "s"
dims_word false dims = decimal dims

-- a colon parts direction, element and dimensions
abbrev pub part_word : ArgShape → List ℕ
part_word shapes.Scalar = codes "s"
part_word (shapes.Window direction element dims strided) =
    join_with_byte 58 (direction_word direction ∷ decimal element ∷ dims_word strided dims ∷ [])

abbrev pub high_word : Bool → List ℕ
high_word true = codes "high"
high_word false = codes "plain"

abbrev pub width_word : Width → List ℕ
width_word widths.W8 = codes "8"
width_word widths.W16 = codes "16"
width_word widths.W32 = codes "32"
width_word widths.W64 = codes "64"

-- ---- lines

abbrev pub line_words : ListingLine → List (List ℕ)
line_words (lines.Head globals_end main) = codes "code" ∷ decimal globals_end ∷ decimal main ∷ []
line_words (lines.Data d) = codes "data" ∷ decimal d.address ∷ encode_lower d.bytes ∷ []
line_words (lines.Opens name frame params) = codes "function" ∷ name ∷ decimal frame ∷ map width_word params
line_words (lines.Task s) = codes "task" ∷ high_word s.high ∷ map part_word s.args
line_words (lines.Instr i) = codes "i" ∷ decimal i.line ∷ op_words i.op

-- One space parts the words of a line, and a newline ends it.
abbrev pub line_text : ListingLine → List ℕ
line_text line = join_with_byte 32 (line_words line) ++ codes "\n"

abbrev pub task_lines : Option TaskShape → List ListingLine
task_lines None = []
task_lines (Some s) = lines.Task s ∷ []

abbrev pub function_lines : Function → List ListingLine
function_lines f = lines.Opens f.name f.frame f.params ∷ task_lines f.task ++ map lines.Instr f.body

abbrev pub code_lines : Code → List ListingLine
code_lines c = lines.Head c.globals_end c.main ∷ map lines.Data c.datums ++ flat_map function_lines c.functions

abbrev pub listing : Code → List ℕ
listing c = flat_map line_text (code_lines c)

-- ---- what a listing can write

-- a number of 64 bits, from -2^63 to 2^63 - 1
abbrev pub IsSigned : ℤ → Type 0
IsSigned (pos n) = n < 2 ^ 63
IsSigned (negsuc m) = m < 2 ^ 63

abbrev pub OpFits : Op → Type 0
OpFits (ops.Push v) = IsSigned v
OpFits (ops.Dup n) = n < 2 ^ 32
OpFits (ops.Frame k) = k < 2 ^ 32
OpFits (ops.Jump to) = to < 2 ^ 32
OpFits (ops.Jumpz to) = to < 2 ^ 32
OpFits (ops.Call k) = k < 2 ^ 32
OpFits (ops.Submit k) = k < 2 ^ 32
OpFits _ = Unit {0}

abbrev pub PartFits : ArgShape → Type 0
PartFits shapes.Scalar = Unit {0}
PartFits (shapes.Window direction element dims true) = (element < 2 ^ 32) × (dims ≡ 3)
PartFits (shapes.Window direction element dims false) = (element < 2 ^ 32) × (dims < 2 ^ 32)

abbrev pub LineFits : ListingLine → Type 0
LineFits (lines.Head globals_end main) = (globals_end < 2 ^ 32) × (main < 2 ^ 32)
LineFits (lines.Data d) = (d.address < 2 ^ 32) × IsBytes d.bytes × (1 ≤ length d.bytes)
LineFits (lines.Opens name frame params) = IsTrue (is_identifier name) × (frame < 2 ^ 32)
LineFits (lines.Task s) = AllByRecursion PartFits s.args
LineFits (lines.Instr i) = (1 ≤ i.line) × (i.line < 2 ^ 32) × OpFits i.op

-- Each number is one of its type, each name an identifier, no datum is empty, and each strided window has three dimensions.
abbrev pub Fits : Code → Type 0
Fits c = AllByRecursion LineFits (code_lines c)
