-- The instructions of pieces, with absolute jumps.
use Rattle.std.specs.Prelude.{ℕ, ◌+◌, pos, List, [], ◌∷◌, ◌++◌, map, Option}
use Rattle.css_isa.specs.declared.code.Instr.{Instr}
use Rattle.css_isa.specs.declared.code.Op.{Op}
use Rattle.css_isa.specs.declared.code.Op.TheVariants as ops
use Rattle.css_isa.specs.Code.{Routine, Shape, Datum, Code}
use Rattle.css_blocks.specs.Pieces.{Piece, Skip, Then, Do, Choice, When, Loop, Catch, Exit, Unless, Invoke, Submit, Leave, Ways, at_way, both, aimed}

-- how many there are
abbrev pub size : Piece → ℕ
size Skip = 0
size (Then p q) = size p + size q
size (Do line op) = 1
size (Choice line p q) = size p + size q + 2
size (When line p) = size p + 1
size (Loop line p q) = size p + size q + 2
size (Catch way p) = size p
size (Exit line way) = 1
size (Unless line way) = 1
size (Invoke line f count) = 1
size (Submit line f count dims) = 1
size (Leave line) = 1

abbrev pub instr : (line : ℕ) → Op → Instr
instr line op = record { op = op; line = line }

-- a piece's instructions at a place, where the ways out lead to these places
abbrev pub lower : Piece → (place : ℕ) → Ways ℕ → List Instr
lower Skip at ts = []
lower (Then p q) at ts = lower p at ts ++ lower q (at + size p) ts
lower (Do line op) at ts = instr line op ∷ []
lower (Choice line p q) at ts =
    let second = at + 1 + size p + 1 in
    instr line (ops.Jumpz second) ∷ (lower p (at + 1) ts ++ instr line (ops.Jump (second + size q)) ∷ lower q second ts)
lower (When line p) at ts = instr line (ops.Jumpz (at + 1 + size p)) ∷ lower p (at + 1) ts
lower (Loop line p q) at ts = lower p at ts ++ instr line ops.Turn ∷ (lower q (at + size p + 1) ts ++ instr line (ops.Jump at) ∷ [])
lower (Catch way p) at ts = lower p at (aimed way (at + size p) ts)
lower (Exit line way) at ts = instr line (ops.Jump (at_way ts way)) ∷ []
lower (Unless line way) at ts = instr line (ops.Jumpz (at_way ts way)) ∷ []
lower (Invoke line f count) at ts = instr line (ops.Call f) ∷ []
lower (Submit line f count dims) at ts = instr line (ops.Submit f) ∷ []
lower (Leave line) at ts = instr line ops.Ret ∷ []

-- ---- functions

-- a function of pieces: its name, the bytes of its frame and of each parameter, what its calls are where it is a task, its piece, and
-- the line in which it returns 0 behind that
pub record Function : Type 0 where
  pub name : List ℕ
  pub frame : ℕ
  pub parameters : List ℕ
  pub task : Option Shape
  pub body : Piece
  pub end : ℕ

-- a program of pieces
pub record Program : Type 0 where
  pub globals_end : ℕ
  pub datums : List Datum
  pub functions : List Function
  pub main : ℕ

-- the ways out of a function's piece lead behind it, where 0 is returned
abbrev pub ended : Piece → (end : ℕ) → List Instr
ended p end = lower p 0 (both (size p)) ++ instr end (ops.Push (pos 0)) ∷ instr end ops.Ret ∷ []

abbrev pub routine_of : Function → Routine
routine_of f = record { name = f.name; frame = f.frame; parameters = f.parameters; task = f.task; body = ended f.body f.end }

abbrev pub code_of : Program → Code
code_of p = record { globals_end = p.globals_end; datums = p.datums; functions = map routine_of p.functions; main = p.main }
