-- Structured code: pieces, which know no places.
use Rattle.std.specs.Prelude.{ℕ, List, [], ◌∷◌, Bool, true, false}
use Rattle.css_isa.specs.declared.code.Op.{Op}
use Rattle.css_isa.specs.Roles.{Role, Straight, Turning, Outward, Telling, Awaiting, Changing, Testing, Jumping, Branching, Calling, Submitting, Returning}
use Rattle.css_blocks.specs.declared.part.Way.{Way}
use Rattle.css_blocks.specs.declared.part.Way.TheVariants.{Breaks, Continues}

-- a piece; the lines are those of its own instructions
pub data Piece : Type 0 where
  Skip : Piece
  Then : (first second : Piece) → Piece
  -- an instruction that goes on at the next place
  Do : (line : ℕ) (op : Op) → Piece
  -- takes the top: the second at 0, and else the first
  Choice : (line : ℕ) (yes no : Piece) → Piece
  -- takes the top: nothing at 0, and else the piece
  When : (line : ℕ) (yes : Piece) → Piece
  -- again and again: the first, a turn, the second; it is left by a way out alone
  Loop : (line : ℕ) (first second : Piece) → Piece
  -- this way out of the piece leads to its end
  Catch : (way : Way) (inside : Piece) → Piece
  -- goes this way out
  Exit : (line : ℕ) (way : Way) → Piece
  -- takes the top, and goes this way out at 0
  Unless : (line : ℕ) (way : Way) → Piece
  -- calls the function of this number, with so many arguments; or the task, with so many dimensions above them
  Invoke : (line function count : ℕ) → Piece
  Submit : (line function count dimensions : ℕ) → Piece
  -- leaves the function with the top
  Leave : (line : ℕ) → Piece

-- pieces in a row
abbrev pub row : List Piece → Piece
row [] = Skip
row (p ∷ ps) = Then p (row ps)

-- which instructions a piece may do: those that go on at the next place without a call
abbrev pub is_plain : Role → Bool
is_plain (Straight needed taken given) = true
is_plain Turning = true
is_plain (Outward taken given) = true
is_plain Telling = true
is_plain Awaiting = true
is_plain (Changing mode) = true
is_plain Testing = true
is_plain (Jumping to) = false
is_plain (Branching to) = false
is_plain (Calling k) = false
is_plain (Submitting k) = false
is_plain Returning = false

-- ---- loops of the language

-- tests before each turn of the body, and takes a step behind it
abbrev pub while_loop : (line : ℕ) (test body step : Piece) → Piece
while_loop line test body step = Catch Breaks (Loop line (row (test ∷ Unless line Breaks ∷ [])) (row (Catch Continues body ∷ step ∷ [])))

-- tests behind each turn and its step
abbrev pub do_loop : (line : ℕ) (body step test : Piece) → Piece
do_loop line body step test = Catch Breaks (Loop line (row []) (row (Catch Continues body ∷ step ∷ test ∷ Unless line Breaks ∷ [])))

-- what is given for each way out
pub record Ways (A : Type 0) : Type 0 where
  pub breaks : A
  pub continues : A

abbrev pub at_way : {A : Type 0} → Ways A → Way → A
at_way ways Breaks = ways.breaks
at_way ways Continues = ways.continues

-- the same for both, and another for one of them
abbrev pub both : {A : Type 0} → A → Ways A
both a = record { breaks = a; continues = a }

abbrev pub aimed : {A : Type 0} → Way → A → Ways A → Ways A
aimed Breaks a ways = record { breaks = a; continues = ways.continues }
aimed Continues a ways = record { breaks = ways.breaks; continues = a }
