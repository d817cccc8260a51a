-- What a tape says of tasks: whether calls make them, which one runs, its windows and frames, and what main has used.
use Rattle.std.specs.Prelude.{ℕ, zero, suc, ◌+◌, ◌-◌, ◌*◌, ℤ, pos, negsuc, Bool, true, false, not, ◌&&◌, ◌||◌, List, [], ◌∷◌, drop, length, fold, map, ◌==◌, Option, Some, None, is_none, option_map, if◌then◌else◌}
use Rattle.css_base.specs.declared.direction.Direction.{Direction}
use Rattle.css_base.specs.declared.direction.Direction.TheVariants as directions
use Rattle.css_semantics.specs.Dialogue.{Action, Tape, Argument, Call}
use Rattle.css_semantics.specs.Actions.{Access, Enters, Leaves, Loads, Stores, Allots, NoAccess, access_of, Taking, OnEntry, OnTurn, NoUnit, taking_of, Boundary, BodyBegins, BodyEnds, NoBoundary, boundary_of, Directive, Starting, Finishing, AtBarrier, WaitingOn, NoDirective, directive_of}
use Rattle.css_semantics.specs.Worlds.{state_after}
use Rattle.css_semantics.specs.Memory.{is_between}

-- ---- windows

-- the bytes that a task is given for a pointer: rows of so many bytes from a base, so far apart
pub record Window : Type 0 where
  pub base : ℕ
  pub rows : ℕ
  pub width : ℕ
  pub stride : ℕ

-- so many bytes in one row
abbrev pub plain : (base length : ℕ) → Window
plain base length = record { base = base; rows = 1; width = length; stride = length }

-- rows, which are one row where nothing lies between them
abbrev pub strided : (base rows width stride : ℕ) → Window
strided base rows width stride =
    if (rows == 1) || (width == stride) then plain base (rows * width)
    else record { base = base; rows = rows; width = width; stride = stride }

-- a dimension that is a number of things
abbrev pub count : ℤ → ℕ
count (pos n) = n
count (negsuc n) = 0

-- Where no dimension is strided, a window is one row of as many elements as the dimensions' product is.
abbrev pub window_of_dimensions : Bool → (base element : ℕ) → List ℤ → Window
window_of_dimensions true base element (rows ∷ width ∷ stride ∷ []) =
    strided base (count rows) (element * count width) (element * count stride)
window_of_dimensions strides base element dimensions = plain base (fold (λ product d. product * count d) element dimensions)

abbrev pub window : Argument → Window
window a = window_of_dimensions a.is_strided a.base a.element a.dimensions

abbrev pub windows : Call → List Window
windows call = map window call.arguments

-- the number of its bytes
abbrev pub window_length : Window → ℕ
window_length w = w.rows * w.width

-- the bytes from its first one to its last one
abbrev pub span : Window → ℕ
span w = (w.rows - 1) * w.stride + w.width

-- so many rows from a base have the byte at an address
abbrev pub rows_have : (rows base width stride address : ℕ) → Bool
rows_have zero base width stride address = false
rows_have (suc rows) base width stride address =
    is_between base (base + width) address || rows_have rows (base + stride) width stride address

-- the byte at an address is a window's
abbrev pub has_byte : Window → ℕ → Bool
has_byte w address = rows_have w.rows w.base w.width w.stride address

-- Two windows are equal exactly where their bytes are.
abbrev pub is_same_window : Window → Window → Bool
is_same_window a b = (a.base == b.base) && ((a.rows == b.rows) && ((a.width == b.width) && (a.stride == b.stride)))

abbrev pub reads : Direction → Bool
reads directions.In = true
reads directions.Out = false
reads directions.InOut = true

abbrev pub writes : Direction → Bool
writes directions.In = false
writes directions.Out = true
writes directions.InOut = true

-- ---- whether calls of tasks make tasks

abbrev pub started_by : Directive → (before : Bool) → Bool
started_by Starting before = true
started_by Finishing before = false
started_by AtBarrier before = before
started_by (WaitingOn address) before = before
started_by NoDirective before = before

abbrev pub started_after : Bool → Action → Bool
started_after before action = started_by (directive_of action) before

abbrev pub is_started : Tape → Bool
is_started tape = state_after started_after false tape

-- ---- the task that runs

-- some bytes from an address
pub record Range : Type 0 where
  pub base : ℕ
  pub size : ℕ

-- a window, and what the task does with it
pub record Use : Type 0 where
  pub window : Window
  pub direction : Direction

abbrev pub use_of : Argument → Use
use_of a = record { window = window a; direction = a.direction }

-- A task's call that hasn't returned: what it is given, the stack place at its entry, the bytes of its open frames, the innermost
-- first, the units that it has taken, and the bytes that it has stored.
pub record Body : Type 0 where
  pub uses : List Use
  pub place : ℕ
  pub frames : List ℕ
  pub units : ℕ
  pub stored : List Range

-- whether an action takes a unit, as a number
abbrev pub units_of : Taking → ℕ
units_of OnEntry = 1
units_of OnTurn = 1
units_of NoUnit = 0

abbrev pub unit_of : Action → ℕ
unit_of action = units_of (taking_of action)

-- the open frames behind an action
abbrev pub frames_by : List ℕ → Access → List ℕ
frames_by frames (Enters size) = size ∷ frames
frames_by frames (Leaves base size) = drop 1 frames
frames_by frames (Loads address width) = frames
frames_by frames (Stores address bytes) = frames
frames_by frames (Allots size) = frames
frames_by frames NoAccess = frames

abbrev pub frames_after : List ℕ → Action → List ℕ
frames_after frames action = frames_by frames (access_of action)

-- the bytes that are stored behind an action
abbrev pub stored_by : List Range → Access → List Range
stored_by ranges (Enters size) = ranges
stored_by ranges (Leaves base size) = ranges
stored_by ranges (Loads address width) = ranges
stored_by ranges (Stores address bytes) = record { base = address; size = length bytes } ∷ ranges
stored_by ranges (Allots size) = ranges
stored_by ranges NoAccess = ranges

abbrev pub stored_after : List Range → Action → List Range
stored_after ranges action = stored_by ranges (access_of action)

abbrev pub body_behind : Body → Action → Body
body_behind b action = record {
  uses = b.uses;
  place = b.place;
  frames = frames_after b.frames action;
  units = b.units + unit_of action;
  stored = stored_after b.stored action;
}

-- a task's body before its entry
abbrev pub entry_of : List Use → (place : ℕ) → Body
entry_of uses place = record { uses = uses; place = place; frames = []; units = 0; stored = [] }

abbrev pub body_by : Boundary → (behind : Option Body) → Option Body
body_by (BodyBegins call) behind = Some (entry_of (map use_of call.arguments) call.stack_place)
body_by BodyEnds behind = None
body_by NoBoundary behind = behind

abbrev pub body_after : Option Body → Action → Option Body
body_after body action = body_by (boundary_of action) (option_map (λ b. body_behind b action) body)

-- the task's call that hasn't returned, if there is one
abbrev pub body : Tape → Option Body
body tape = state_after body_after None tape

-- how many tasks were called
abbrev pub called_by : Boundary → (before : ℕ) → ℕ
called_by (BodyBegins call) before = before + 1
called_by BodyEnds before = before
called_by NoBoundary before = before

abbrev pub called_after : ℕ → Action → ℕ
called_after before action = called_by (boundary_of action) before

abbrev pub called : Tape → ℕ
called tape = state_after called_after 0 tape

-- the number of the task that runs: tasks are numbered from 0 in order of their calls
abbrev pub inside : Tape → Option ℕ
inside tape = option_map (λ b. called tape - 1) (body tape)

-- ---- main

-- the units that main has taken
abbrev pub main_units : Tape → ℕ
main_units [] = 0
main_units (i ∷ tape) = if is_none (body tape) then main_units tape + unit_of i.action else main_units tape

-- ---- whether calls make tasks

-- a task's call hasn't returned
abbrev pub is_inside : Tape → Bool
is_inside tape = not (is_none (body tape))

-- calls of tasks make tasks where that was started, outside of all tasks
abbrev pub makes_tasks : Tape → Bool
makes_tasks tape = is_started tape && not (is_inside tape)
