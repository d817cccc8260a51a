-- What the words of a listing's lines say.
use Rattle.std.specs.Prelude.{ℕ, ◌+◌, ◌^◌, ℤ, pos, neg_ℤ, Bool, true, false, ◌&&◌, ◌==◌, nat_lt, List, [], ◌∷◌, codes, drop, length, Option, Some, None, Result, Ok, Err, slice_index, if◌then◌else◌}
use Rattle.std.specs.List.{slice_split}
use Rattle.std.specs.Str.{bytes_eq}
use Rattle.hex.specs.Hex.{encode_lower, decode_of}
use Rattle.hex.specs.declared.error.FromHexError.{FromHexError}
use Rattle.css_base.specs.declared.direction.Direction.{Direction}
use Rattle.css_base.specs.declared.direction.Direction.TheVariants as directions
use Rattle.css_isa.specs.declared.code.Op.{Op}
use Rattle.css_isa.specs.declared.code.Op.TheVariants as ops
use Rattle.css_isa.specs.declared.code.Mark.{Mark}
use Rattle.css_isa.specs.declared.code.Mark.TheVariants as marks
use Rattle.css_isa.specs.declared.code.ShiftWidth.{ShiftWidth}
use Rattle.css_isa.specs.declared.code.ShiftWidth.TheVariants as shifts
use Rattle.css_isa.specs.declared.code.Narrow.{Narrow}
use Rattle.css_isa.specs.declared.code.Narrow.TheVariants as narrows
use Rattle.css_isa.specs.declared.code.Conversion.{Conversion}
use Rattle.css_isa.specs.declared.code.Conversion.TheVariants as conversions
use Rattle.css_isa.specs.declared.code.ArgShape.{ArgShape}
use Rattle.css_isa.specs.declared.code.ArgShape.TheVariants as shapes
use Rattle.css_isa.specs.declared.space.Width.{Width}
use Rattle.css_isa.specs.declared.space.Width.TheVariants as widths
use Rattle.css_isa.specs.Names.{is_identifier}
use Rattle.css_traces.specs.Words.{◌>>=◌, value_in, number_below, small_of, word_at}
use Rattle.css_listing.specs.declared.kind.Kind.{Kind}
use Rattle.css_listing.specs.declared.kind.Kind.TheVariants as heads
use Rattle.css_listing.specs.declared.kind.OpKind.{OpKind}
use Rattle.css_listing.specs.declared.kind.OpKind.TheVariants as kinds

-- ---- tables

-- the first words of lines
abbrev pub head_words : List (List ℕ × Kind)
head_words =
    (codes "code", heads.Head) ∷ (codes "data", heads.Data) ∷ (codes "function", heads.Opens) ∷ (codes "task", heads.Task)
    ∷ (codes "i", heads.Instr) ∷ []

abbrev pub shift_words : List (List ℕ × ShiftWidth)
shift_words = (codes "32", shifts.W32) ∷ (codes "64", shifts.W64) ∷ []

abbrev pub narrow_words : List (List ℕ × Narrow)
narrow_words =
    (codes "u8", narrows.U8) ∷ (codes "s8", narrows.S8) ∷ (codes "u16", narrows.U16) ∷ (codes "s16", narrows.S16)
    ∷ (codes "u32", narrows.U32) ∷ (codes "s32", narrows.S32) ∷ []

abbrev pub mark_words : List (List ℕ × Mark)
mark_words =
    (codes "0", marks.Start) ∷ (codes "1", marks.Finish) ∷ (codes "2", marks.Barrier) ∷ (codes "3", marks.Wait)
    ∷ (codes "4", marks.InWait) ∷ (codes "5", marks.InDimension) ∷ (codes "6", marks.Outside) ∷ (codes "7", marks.Started) ∷ []

abbrev pub out_words : List (List ℕ × Conversion)
out_words =
    (codes "c", conversions.Char) ∷ (codes "d", conversions.Signed) ∷ (codes "u", conversions.Unsigned)
    ∷ (codes "x", conversions.Hexadecimal) ∷ (codes "q", conversions.Wide) ∷ []

-- instructions without an operand
abbrev pub bare_words : List (List ℕ × Op)
bare_words =
    (codes "drop", ops.Drop) ∷ (codes "swap", ops.Swap) ∷ (codes "load8u", ops.Load8u) ∷ (codes "load8s", ops.Load8s)
    ∷ (codes "load16u", ops.Load16u) ∷ (codes "load16s", ops.Load16s) ∷ (codes "load32u", ops.Load32u)
    ∷ (codes "load32s", ops.Load32s) ∷ (codes "load64", ops.Load64) ∷ (codes "store8", ops.Store8) ∷ (codes "store16", ops.Store16)
    ∷ (codes "store32", ops.Store32) ∷ (codes "store64", ops.Store64) ∷ (codes "add", ops.Add) ∷ (codes "sub", ops.Sub)
    ∷ (codes "mul", ops.Mul) ∷ (codes "and", ops.And) ∷ (codes "or", ops.Or) ∷ (codes "xor", ops.Xor) ∷ (codes "neg", ops.Neg)
    ∷ (codes "not", ops.Not) ∷ (codes "divs", ops.Divs) ∷ (codes "divu", ops.Divu) ∷ (codes "rems", ops.Rems)
    ∷ (codes "remu", ops.Remu) ∷ (codes "eq", ops.Eq) ∷ (codes "ne", ops.Ne) ∷ (codes "lts", ops.Lts) ∷ (codes "ltu", ops.Ltu)
    ∷ (codes "ret", ops.Ret) ∷ (codes "turn", ops.Turn) ∷ (codes "in", ops.In) ∷ (codes "malloc", ops.Malloc) ∷ []

-- instructions with one
abbrev pub operand_words : List (List ℕ × OpKind)
operand_words =
    (codes "push", kinds.Push) ∷ (codes "dup", kinds.Dup) ∷ (codes "frame", kinds.Frame) ∷ (codes "shl", kinds.Shl)
    ∷ (codes "shrs", kinds.Shrs) ∷ (codes "shru", kinds.Shru) ∷ (codes "conv", kinds.Conv) ∷ (codes "jump", kinds.Jump)
    ∷ (codes "jumpz", kinds.Jumpz) ∷ (codes "call", kinds.Call) ∷ (codes "submit", kinds.Submit) ∷ (codes "mark", kinds.Mark)
    ∷ (codes "out", kinds.Out) ∷ []

abbrev pub direction_words : List (List ℕ × Direction)
direction_words = (codes "in", directions.In) ∷ (codes "out", directions.Out) ∷ (codes "inout", directions.InOut) ∷ []

abbrev pub high_words : List (List ℕ × Bool)
high_words = (codes "high", true) ∷ (codes "plain", false) ∷ []

abbrev pub width_words : List (List ℕ × Width)
width_words = (codes "8", widths.W8) ∷ (codes "16", widths.W16) ∷ (codes "32", widths.W32) ∷ (codes "64", widths.W64) ∷ []

-- ---- numbers and names

-- the negative of a number, which isn't 0
abbrev pub negative_of : ℕ → Option ℤ
negative_of n = if n == 0 then None else Some (neg_ℤ (pos n))

-- the number of 64 bits that a word writes, with a minus in front where it is negative
unfoldable pub signed_of : List ℕ → Option ℤ
signed_of word =
    if slice_index word 0 == 45 then (number_below (2 ^ 63 + 1) (drop 1 word) >>= λ n. negative_of n)
    else (number_below (2 ^ 63) word >>= λ n. Some (pos n))

unfoldable pub name_of : List ℕ → Option (List ℕ)
name_of word = if is_identifier word then Some word else None

-- some bytes, if this is how they are written
abbrev pub written_as : List ℕ → Result (List ℕ) FromHexError → Option (List ℕ)
written_as word (Ok bytes) = if nat_lt 0 (length bytes) && bytes_eq (encode_lower bytes) word then Some bytes else None
written_as word (Err e) = None

unfoldable pub bytes_of : List ℕ → Option (List ℕ)
bytes_of word = written_as word (decode_of word)

-- ---- instructions

unfoldable pub op_with : OpKind → (word : List ℕ) → Option Op
op_with kinds.Push word = signed_of word >>= λ v. Some (ops.Push v)
op_with kinds.Dup word = small_of word >>= λ n. Some (ops.Dup n)
op_with kinds.Frame word = small_of word >>= λ k. Some (ops.Frame k)
op_with kinds.Shl word = value_in shift_words word >>= λ n. Some (ops.Shl n)
op_with kinds.Shrs word = value_in shift_words word >>= λ n. Some (ops.Shrs n)
op_with kinds.Shru word = value_in shift_words word >>= λ n. Some (ops.Shru n)
op_with kinds.Conv word = value_in narrow_words word >>= λ t. Some (ops.Conv t)
op_with kinds.Jump word = small_of word >>= λ to. Some (ops.Jump to)
op_with kinds.Jumpz word = small_of word >>= λ to. Some (ops.Jumpz to)
op_with kinds.Call word = small_of word >>= λ k. Some (ops.Call k)
op_with kinds.Submit word = small_of word >>= λ k. Some (ops.Submit k)
op_with kinds.Mark word = value_in mark_words word >>= λ m. Some (ops.Mark m)
op_with kinds.Out word = value_in out_words word >>= λ c. Some (ops.Out c)

unfoldable pub op_of : List (List ℕ) → Option Op
op_of words =
    if length words == 1 then value_in bare_words (word_at words 0)
    else (if length words == 2 then (value_in operand_words (word_at words 0) >>= λ kind. op_with kind (word_at words 1)) else None)

-- ---- tasks

unfoldable pub window_of : List (List ℕ) → Option ArgShape
window_of words =
    if length words == 3
    then (value_in direction_words (word_at words 0) >>= λ direction. small_of (word_at words 1) >>= λ element.
    if bytes_eq (word_at words 2) (codes "s") then Some (shapes.Window direction element 3 true)
    else (small_of (word_at words 2) >>= λ dims. Some (shapes.Window direction element dims false)))
    else None

unfoldable pub part_of : List ℕ → Option ArgShape
part_of word = if bytes_eq word (codes "s") then Some shapes.Scalar else window_of (slice_split (λ b. b == 58) word)

unfoldable pub parts_of : List (List ℕ) → Option (List ArgShape)
parts_of [] = Some []
parts_of (word ∷ words) = part_of word >>= λ part. parts_of words >>= λ parts. Some (part ∷ parts)

-- ---- functions

unfoldable pub widths_of : List (List ℕ) → Option (List Width)
widths_of [] = Some []
widths_of (word ∷ words) = value_in width_words word >>= λ width. widths_of words >>= λ others. Some (width ∷ others)
