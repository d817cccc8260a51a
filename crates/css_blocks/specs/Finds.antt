-- That a piece finds its cells and functions, and stands in a mode in which it may: what each construct of a language owes.
use Rattle.std.specs.Prelude.{◌≡◌, ℕ, ◌+◌, ◌-◌, ◌≤◌, true, [], All, length, Some, slice_get}
use Rattle.css_semantics.specs.Dialogue.{Mode, Plain}
use Rattle.css_semantics.specs.Memory.{first_global}
use Rattle.css_isa.specs.Code.{Routine, Shape, Code, all_dimensions}
use Rattle.css_isa.specs.Roles.{Role, Changing, role_of}
use Rattle.css_isa.specs.Soundness.{needs, height_behind, IsPlainAt, IsQuiet, IsShapeOf, IsReached, IsWithin}
use Rattle.css_blocks.specs.Pieces.{Piece, Skip, Then, Do, Choice, When, Loop, Catch, Exit, Unless, Invoke, Submit, Leave, is_plain, Ways, at_way, both, aimed}
use Rattle.css_blocks.specs.Layout.{Function, Program, routine_of, code_of}

-- how many cells there are, and the mode
pub record Level : Type 0 where
  pub height : ℕ
  pub mode : Mode

abbrev pub level : ℕ → Mode → Level
level height mode = record { height = height; mode = mode }

abbrev pub ground : Level
ground = level 0 Plain

-- without the topmost cell
abbrev pub below : Level → Level
below l = level (l.height - 1) l.mode

abbrev pub mode_behind : Role → Mode → Mode
mode_behind (Changing next) mode = next
mode_behind role mode = mode

module _ (code : Code) where
  -- behind a piece
  abbrev pub behind : Piece → Level → Level
  behind Skip l = l
  behind (Then p q) l = behind q (behind p l)
  behind (Do line op) l = level (height_behind code (role_of op) l.height) (mode_behind (role_of op) l.mode)
  behind (Choice line p q) l = behind p (below l)
  behind (When line p) l = below l
  behind (Loop line p q) l = behind p l
  behind (Catch way p) l = behind p l
  behind (Exit line way) l = l
  behind (Unless line way) l = below l
  behind (Invoke line f count) l = level (l.height - count + 1) l.mode
  behind (Submit line f count dims) l = level (l.height - (count + dims) + 1) l.mode
  behind (Leave line) l = below l

  -- a function takes so many arguments, and has so many dimensions
  abbrev pub Takes : (function count : ℕ) → Type 0
  Takes k count = (f : Routine) × (slice_get code.functions k ≡ Some f) × (length f.parameters ≡ count)

  abbrev pub IsTask : (function count dims : ℕ) → Type 0
  IsTask k count dims =
      (f : Routine) × (s : Shape) × (slice_get code.functions k ≡ Some f) × (length f.parameters ≡ count) × (f.task ≡ Some s) × (all_dimensions s.arguments ≡ dims)

  -- with these levels at the ways out, a piece finds what it needs, and its ways meet at one level
  abbrev pub Finds : Ways Level → Piece → Level → Type 0
  Finds ls Skip l = Unit {0}
  Finds ls (Then p q) l = Finds ls p l × Finds ls q (behind p l)
  Finds ls (Do line op) l = (is_plain (role_of op) ≡ true) × (needs code op ≤ l.height) × IsPlainAt code (role_of op) l.mode
  Finds ls (Choice line p q) l = (1 ≤ l.height) × Finds ls p (below l) × Finds ls q (below l) × (behind q (below l) ≡ behind p (below l))
  Finds ls (When line p) l = (1 ≤ l.height) × Finds ls p (below l) × (behind p (below l) ≡ below l)
  Finds ls (Loop line p q) l = Finds ls p l × Finds ls q (behind p l) × (behind q (behind p l) ≡ l)
  Finds ls (Catch way p) l = Finds (aimed way (behind p l) ls) p l
  Finds ls (Exit line way) l = at_way ls way ≡ l
  Finds ls (Unless line way) l = (1 ≤ l.height) × (at_way ls way ≡ below l)
  Finds ls (Invoke line f count) l = Takes f count × (count ≤ l.height) × (l.mode ≡ Plain)
  Finds ls (Submit line f count dims) l = IsTask f count dims × (count + dims ≤ l.height)
  Finds ls (Leave line) l = (1 ≤ l.height) × (l.mode ≡ Plain)

  -- a function's piece begins and ends without cells
  pub record AreFound (p : Piece) : Type 0 where
    pub finds : Finds (both ground) p ground
    pub ends : behind p ground ≡ ground

-- each function of a program finds what it needs
abbrev pub Fit : Program → Type 0
Fit p = (k : ℕ) (f : Function) → slice_get p.functions k ≡ Some f → AreFound (code_of p) f.body

-- ---- whole programs

module _ (code : Code) where
  -- a piece that a task may have
  abbrev pub MakesNoEvents : Piece → Type 0
  MakesNoEvents Skip = Unit {0}
  MakesNoEvents (Then p q) = MakesNoEvents p × MakesNoEvents q
  MakesNoEvents (Do line op) = IsQuiet code op
  MakesNoEvents (Choice line p q) = MakesNoEvents p × MakesNoEvents q
  MakesNoEvents (When line p) = MakesNoEvents p
  MakesNoEvents (Loop line p q) = MakesNoEvents p × MakesNoEvents q
  MakesNoEvents (Catch way p) = MakesNoEvents p
  MakesNoEvents (Exit line way) = Unit {0}
  MakesNoEvents (Unless line way) = Unit {0}
  MakesNoEvents (Invoke line f count) = Unit {0}
  MakesNoEvents (Submit line f count dims) = ⊥
  MakesNoEvents (Leave line) = Unit {0}

-- Each function finds what it needs, main has no parameters, the shapes of tasks are shapes of their functions, what tasks reach makes no
-- events, and the first bytes are those of globals.
pub record IsWhole (p : Program) : Type 0 where
  pub fits : Fit p
  pub main : (f : Function) × (slice_get p.functions p.main ≡ Some f) × (f.parameters ≡ [])
  pub shapes : (k : ℕ) (f : Function) (s : Shape) → slice_get p.functions k ≡ Some f → f.task ≡ Some s → IsShapeOf (code_of p) s (routine_of f)
  pub quiet : (k : ℕ) (f : Function) → IsReached (code_of p) k → slice_get p.functions k ≡ Some f → MakesNoEvents (code_of p) f.body
  pub globals : first_global ≤ p.globals_end
  pub datums : All (IsWithin (code_of p)) p.datums
