-- What each instruction that goes on at the next place does with the operand cells: the one table of all of them.
use Rattle.std.specs.Prelude.{ℕ, List, [], ◌∷◌, Option, Some, None, slice_get, nat_eq, if◌then◌else◌, bit_and, bit_or, bit_xor}
use Rattle.css_base.specs.declared.int_type.IntType.{IntType}
use Rattle.css_base.specs.declared.int_type.IntType.TheVariants as types
use Rattle.css_base.specs.declared.ending.FaultKind.{FaultKind}
use Rattle.css_base.specs.declared.ending.FaultKind.TheVariants.{DivideByZero}
use Rattle.css_semantics.specs.Dialogue.{Action, Turn, Load, Store, Out, In, Malloc, Start, Finish, Barrier, Wait}
use Rattle.css_semantics.specs.Memory.{big_endian_bytes}
use Rattle.css_isa.specs.declared.code.Op.{Op}
use Rattle.css_isa.specs.declared.code.Op.TheVariants as ops
use Rattle.css_isa.specs.declared.code.Mark.TheVariants as marks
use Rattle.css_isa.specs.declared.space.Width.{Width}
use Rattle.css_isa.specs.declared.space.Width.TheVariants as widths
use Rattle.css_isa.specs.Spaces.{bytes_of}
use Rattle.css_isa.specs.Cells.{cell_of, address_of, sum_of, difference_of, product_of, negative_of, complement_of, quotient_of, remainder_of, unsigned_quotient_of, unsigned_remainder_of, shifted_left, shifted_right, unsigned_shifted_right, are_equal, differ, is_below, is_unsigned_below, narrowed, text_of}

-- what becomes of the operand cells, the topmost first
pub data Effect : Type 0 where
  -- these stand there then
  Gives : (cells : List ℕ) → Effect
  -- something is asked, and the reply, as a value of the type, is a cell on top of these
  Asks : (action : Action) (t : IntType) (cells : List ℕ) → Effect
  -- something is asked, and these stand there then, whatever the reply
  Tells : (action : Action) (cells : List ℕ) → Effect
  -- it is a fault
  Faults : (kind : FaultKind) → Effect
  -- a cell is missing, or the instruction isn't one that goes on at the next place
  Lacks : Effect

-- ---- with the topmost cells, the top last, and those below them

abbrev pub on_one : List ℕ → (ℕ → List ℕ → Effect) → Effect
on_one [] go = Lacks
on_one (a ∷ rest) go = go a rest

abbrev pub on_two : List ℕ → (ℕ → ℕ → List ℕ → Effect) → Effect
on_two [] go = Lacks
on_two (b ∷ []) go = Lacks
on_two (b ∷ a ∷ rest) go = go a b rest

-- with a cell that may be missing
abbrev pub on_cell : Option ℕ → (ℕ → Effect) → Effect
on_cell None go = Lacks
on_cell (Some a) go = go a

-- ---- kinds of effects

-- one cell for one
abbrev pub one : (ℕ → ℕ) → List ℕ → Effect
one g stack = on_one stack (λ a rest. Gives (g a ∷ rest))

-- one cell for two
abbrev pub two : (ℕ → ℕ → ℕ) → List ℕ → Effect
two g stack = on_two stack (λ a b rest. Gives (g a b ∷ rest))

-- one cell for two, of which the second isn't 0
abbrev pub division : (ℕ → ℕ → ℕ) → List ℕ → Effect
division g stack = on_two stack (λ a b rest. if nat_eq b 0 then Faults DivideByZero else Gives (g a b ∷ rest))

-- what lies at an address, as a value of a type
abbrev pub loading : Width → IntType → List ℕ → Effect
loading width t stack = on_one stack (λ a rest. Asks (Load (address_of a) (bytes_of width)) t rest)

-- stores the low bytes of a cell, which stays
abbrev pub storing : Width → List ℕ → Effect
storing width stack = on_two stack (λ a v rest. Tells (Store (address_of a) (big_endian_bytes (bytes_of width) v)) (v ∷ rest))

-- ---- the table

-- what an instruction does over a frame at a base
abbrev pub effect : (base : ℕ) → Op → List ℕ → Effect
effect base (ops.Push v) stack = Gives (cell_of v ∷ stack)
effect base ops.Drop stack = on_one stack (λ a rest. Gives rest)
effect base (ops.Dup n) stack = on_cell (slice_get stack n) (λ a. Gives (a ∷ stack))
effect base ops.Swap stack = on_two stack (λ a b rest. Gives (a ∷ b ∷ rest))
effect base (ops.Frame k) stack = Gives (sum_of base k ∷ stack)
effect base ops.Load8u stack = loading widths.W8 types.UChar stack
effect base ops.Load8s stack = loading widths.W8 types.SChar stack
effect base ops.Load16u stack = loading widths.W16 types.UShort stack
effect base ops.Load16s stack = loading widths.W16 types.Short stack
effect base ops.Load32u stack = loading widths.W32 types.UInt stack
effect base ops.Load32s stack = loading widths.W32 types.Int stack
effect base ops.Load64 stack = loading widths.W64 types.ULongLong stack
effect base ops.Store8 stack = storing widths.W8 stack
effect base ops.Store16 stack = storing widths.W16 stack
effect base ops.Store32 stack = storing widths.W32 stack
effect base ops.Store64 stack = storing widths.W64 stack
effect base ops.Add stack = two sum_of stack
effect base ops.Sub stack = two difference_of stack
effect base ops.Mul stack = two product_of stack
effect base ops.And stack = two bit_and stack
effect base ops.Or stack = two bit_or stack
effect base ops.Xor stack = two bit_xor stack
effect base ops.Neg stack = one negative_of stack
effect base ops.Not stack = one complement_of stack
effect base ops.Divs stack = division quotient_of stack
effect base ops.Divu stack = division unsigned_quotient_of stack
effect base ops.Rems stack = division remainder_of stack
effect base ops.Remu stack = division unsigned_remainder_of stack
effect base (ops.Shl n) stack = two (shifted_left n) stack
effect base (ops.Shrs n) stack = two (shifted_right n) stack
effect base (ops.Shru n) stack = two (unsigned_shifted_right n) stack
effect base ops.Eq stack = two are_equal stack
effect base ops.Ne stack = two differ stack
effect base ops.Lts stack = two is_below stack
effect base ops.Ltu stack = two is_unsigned_below stack
effect base (ops.Conv t) stack = one (narrowed t) stack
effect base ops.Turn stack = Tells Turn stack
effect base (ops.Mark marks.Start) stack = Tells Start stack
effect base (ops.Mark marks.Finish) stack = Tells Finish stack
effect base (ops.Mark marks.Barrier) stack = Tells Barrier stack
effect base (ops.Mark marks.Wait) stack = on_one stack (λ a rest. Tells (Wait (address_of a)) rest)
effect base (ops.Out c) stack = on_one stack (λ a rest. Asks (Out (text_of c a)) types.ULongLong rest)
effect base ops.In stack = Asks In types.ULongLong stack
effect base ops.Malloc stack = on_one stack (λ a rest. Asks (Malloc (address_of a)) types.ULongLong rest)
effect base op stack = Lacks
