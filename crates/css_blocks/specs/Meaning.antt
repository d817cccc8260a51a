-- What a piece means: what it asks a world, and what becomes of the operand cells and the mode.
use Rattle.std.specs.Prelude.{ℕ, zero, suc, List, [], ◌∷◌, length, take, drop, reverse, Option, Some, None, nat_eq, nat_le, if◌then◌else◌}
use Rattle.css_semantics.specs.Dialogue.{Turn, Tape, World, Outcome, Goes, Stops, Tired, then_do, Mode, ask_in, fault_in}
use Rattle.css_isa.specs.declared.code.Op.{Op}
use Rattle.css_isa.specs.Cells.{cell_as}
use Rattle.css_isa.specs.Effects as effects
use Rattle.css_isa.specs.Effects.{Effect, effect}
use Rattle.css_isa.specs.Roles.{Role, Straight, Turning, Outward, Telling, Awaiting, Changing, Testing, Jumping, Branching, Calling, Submitting, Returning, role_of}
use Rattle.css_semantics.specs.Tasks.{makes_tasks}
use Rattle.css_blocks.specs.declared.part.Way.{Way}
use Rattle.css_blocks.specs.declared.part.Way.TheVariants.{Breaks, Continues}
use Rattle.css_blocks.specs.Pieces.{Piece, Skip, Then, Do, Choice, When, Loop, Catch, Exit, Unless, Invoke, Submit, Leave}

-- how a piece is left
pub data Exits : Type 0 where
  -- at its end, in a mode and with these cells
  Falls : (mode : Mode) (stack : List ℕ) → Exits
  -- by a way out
  Jumps : (way : Way) (mode : Mode) (stack : List ℕ) → Exits
  -- the function returns a cell, in a line
  Returns : (cell line : ℕ) → Exits
  -- an instruction lacks its cells or its function
  Sticks : Exits

-- what a piece does from a mode and cells
abbrev pub Does : Type 0
Does = Mode → List ℕ → Tape → Outcome Exits

-- a piece behind another
abbrev pub on_fall : Does → Exits → Tape → Outcome Exits
on_fall go (Falls mode stack) tape = go mode stack tape
on_fall go (Jumps way mode stack) tape = Goes (Jumps way mode stack) tape
on_fall go (Returns cell line) tape = Goes (Returns cell line) tape
on_fall go Sticks tape = Goes Sticks tape

-- behind a piece that one way out leads to
abbrev pub caught : Way → Exits → Exits
caught Breaks (Jumps Breaks mode stack) = Falls mode stack
caught Continues (Jumps Continues mode stack) = Falls mode stack
caught way e = e

-- with the topmost cell, and those below it
abbrev pub on_top : List ℕ → Tape → (ℕ → List ℕ → Outcome Exits) → Outcome Exits
on_top [] tape go = Goes Sticks tape
on_top (cell ∷ rest) tape go = go cell rest

-- with so many of the topmost cells, the top last, and those below them
abbrev pub on_many : ℕ → List ℕ → Tape → (List ℕ → List ℕ → Outcome Exits) → Outcome Exits
on_many n stack tape go = if nat_le n (length stack) then go (reverse (take n stack)) (drop n stack) else Goes Sticks tape

-- ---- instructions that go on at the next place

-- by what becomes of the cells
abbrev pub worked : World → (line : ℕ) → Mode → Effect → Tape → Outcome Exits
worked w line mode (effects.Gives cells) tape = Goes (Falls mode cells) tape
worked w line mode (effects.Asks action t cells) tape = then_do (ask_in w mode action line tape) (λ r tape'. Goes (Falls mode (cell_as t r ∷ cells)) tape')
worked w line mode (effects.Tells action cells) tape = then_do (ask_in w mode action line tape) (λ r tape'. Goes (Falls mode cells) tape')
worked w line mode (effects.Faults kind) tape = fault_in w mode kind line tape
worked w line mode effects.Lacks tape = Goes Sticks tape

abbrev pub acts : World → (base line : ℕ) → Role → Op → Does
acts w base line (Straight needed taken given) op mode stack tape = worked w line mode (effect base op stack) tape
acts w base line Turning op mode stack tape = worked w line mode (effect base op stack) tape
acts w base line (Outward taken given) op mode stack tape = worked w line mode (effect base op stack) tape
acts w base line Telling op mode stack tape = worked w line mode (effect base op stack) tape
acts w base line Awaiting op mode stack tape = worked w line mode (effect base op stack) tape
acts w base line (Changing next) op mode stack tape = Goes (Falls next stack) tape
acts w base line Testing op mode stack tape = if makes_tasks tape then Goes (Falls mode (1 ∷ stack)) tape else Goes (Falls mode (0 ∷ stack)) tape
acts w base line (Jumping to) op mode stack tape = Goes Sticks tape
acts w base line (Branching to) op mode stack tape = Goes Sticks tape
acts w base line (Calling k) op mode stack tape = Goes Sticks tape
acts w base line (Submitting k) op mode stack tape = Goes Sticks tape
acts w base line Returning op mode stack tape = Goes Sticks tape

-- ---- pieces

-- A loop from its turn on, at most so many of them: each asks for it, does the second part, and then the first for the next.
abbrev pub turns : World → (line : ℕ) → ℕ → (first second : Does) → Does
turns w line zero first second mode stack tape = Stops Tired tape
turns w line (suc m) first second mode stack tape =
    then_do (ask_in w mode Turn line tape) (λ r tape'.
    then_do (second mode stack tape') (on_fall (λ mode' stack' tape''.
    then_do (first mode' stack' tape'') (on_fall (turns w line m first second)))))

-- What calls mean, and tasks' calls over a caller's frame at a base: the cell that they give, or none where the function lacks something.
pub record Calls : Type 0 where
  pub call : (function : ℕ) (arguments : List ℕ) (line : ℕ) → Tape → Outcome (Option ℕ)
  pub submit : (function : ℕ) (arguments dimensions : List ℕ) (base line : ℕ) → Tape → Outcome (Option ℕ)

-- behind a call
abbrev pub given : Mode → List ℕ → Option ℕ → Tape → Outcome Exits
given mode rest None tape = Goes Sticks tape
given mode rest (Some cell) tape = Goes (Falls mode (cell ∷ rest)) tape

-- in a world, where calls mean this, and a loop makes at most n turns, over a frame at a base
module _ (w : World) (calls : Calls) (n base : ℕ) where
  abbrev pub means : Piece → Does
  means Skip mode stack tape = Goes (Falls mode stack) tape
  means (Then p q) mode stack tape = then_do (means p mode stack tape) (on_fall (means q))
  means (Do line op) mode stack tape = acts w base line (role_of op) op mode stack tape
  means (Choice line p q) mode stack tape =
      on_top stack tape (λ cell rest. if nat_eq cell 0 then means q mode rest tape else means p mode rest tape)
  means (When line p) mode stack tape =
      on_top stack tape (λ cell rest. if nat_eq cell 0 then Goes (Falls mode rest) tape else means p mode rest tape)
  means (Loop line p q) mode stack tape = then_do (means p mode stack tape) (on_fall (turns w line n (means p) (means q)))
  means (Catch way p) mode stack tape = then_do (means p mode stack tape) (λ e tape'. Goes (caught way e) tape')
  means (Exit line way) mode stack tape = Goes (Jumps way mode stack) tape
  means (Unless line way) mode stack tape =
      on_top stack tape (λ cell rest. if nat_eq cell 0 then Goes (Jumps way mode rest) tape else Goes (Falls mode rest) tape)
  means (Invoke line f count) mode stack tape =
      on_many count stack tape (λ arguments rest. then_do (calls.call f arguments line tape) (given mode rest))
  means (Submit line f count dims) mode stack tape =
      on_many dims stack tape (λ dimensions below. on_many count below tape (λ arguments rest.
      then_do (calls.submit f arguments dimensions base line tape) (given mode rest)))
  means (Leave line) mode stack tape = on_top stack tape (λ cell rest. Goes (Returns cell line) tape)
