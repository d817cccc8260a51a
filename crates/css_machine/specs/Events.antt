-- What a machine's run to the next event does, over a space and with units.
use Rattle.std.specs.Prelude.{◌≡◌, ℕ, suc, ◌+◌, ◌<◌, ◌⊎◌, List, [], ◌∷◌, ◌++◌, length, Option, Some, None, slice_get}
use Rattle.css_base.specs.declared.ending.Stop.{Stop}
use Rattle.css_base.specs.declared.ending.Stop.TheVariants as stops
use Rattle.css_base.specs.declared.int_type.IntType.TheVariants as types
use Rattle.css_semantics.specs.Dialogue.{Action, Reply, Out, In, Malloc, Calls, Start, Finish, Barrier, Wait, Tape, World, Outcome, Goes, Stops, Stopped, Mode, Plain, then_do, ask, ask_in, fault_in}
use Rattle.css_semantics.specs.Worlds.{state_after, AreOfMachine, Follows}
use Rattle.css_semantics.specs.Tasks.{makes_tasks}
use Rattle.css_isa.specs.Cells.{truth, cell_as}
use Rattle.css_isa.specs.Code.{Routine, Shape, Code, all_dimensions, narrowed_to, call_of}
use Rattle.css_isa.specs.Steps.{State, Begin, At, Caller, Halt, Finished, Stuck, behind_call}
use Rattle.css_isa.specs.Machine.{frame_of, exec, answered, IsOwed}
use Rattle.css_isa.specs.Soundness.{Plan, IsSound, IsAt}
use Rattle.css_machine.specs.declared.event.MarkKind.{MarkKind}
use Rattle.css_machine.specs.declared.event.MarkKind.TheVariants as marks
use Rattle.css_machine.specs.declared.event.Submitted.{Submitted}
use Rattle.css_machine.specs.declared.event.Event.{Event}
use Rattle.css_machine.specs.declared.event.Event.TheVariants as events
use Rattle.css_machine.specs.Modes.{mode_as}

-- ---- frames

-- the base of the innermost frame
abbrev pub base_of : State → ℕ
base_of (Begin function arguments line) = 0
base_of (At a callers place stack) = a.base

-- where the machine stands: in a dimension, in the expressions of a wait, or anywhere else
abbrev pub mode_of : State → Mode
mode_of (Begin function arguments line) = Plain
mode_of (At a callers place stack) = a.mode

abbrev pub IsInside : State → Type 0
IsInside (Begin function arguments line) = ⊥
IsInside (At a callers place stack) = Unit {0}

-- the callers' frames stand directly above a place, each above the one that it called
abbrev pub StandAbove : Code → (place : ℕ) → List Caller → Type 0
StandAbove code place [] = Unit {0}
StandAbove code place (c ∷ callers) =
    (c.activation.base ≡ place) × StandAbove code (c.activation.base + frame_of (slice_get code.functions c.activation.function)) callers

-- The machine's frames stand one above the other, the innermost at the space's stack place.
abbrev pub IsStacked : Code → (place : ℕ) → State → Type 0
IsStacked code place (Begin function arguments line) = Unit {0}
IsStacked code place (At a callers at stack) =
    (a.base ≡ place) × StandAbove code (a.base + frame_of (slice_get code.functions a.function)) callers

-- ---- what a run to an event does

-- In each world that replies to the actions of a machine as a space does from a tape on, the machine adds to the tape by itself, and
-- comes so from the old space to the new one; and this holds of the world, the tape and the longer tape. (Units are a part of the
-- space here.)
abbrev pub Along : {S : Type 0} → (S → Action → Reply) → (S → Action → S) → S → S → (World → Tape → Tape → Type 0) → Type 0
Along reply learn space space' Holds = (w : World) (tape : Tape) → Follows w reply learn tape space →
    (more : Tape) × AreOfMachine more × (state_after learn space more ≡ space') × Holds w tape (more ++ tape)

-- what comes of a stop in a mode and a line: a rule ends the dialogue, and so does a fault, aside as an item that the world may refuse
abbrev pub stops_in : {A : Type 0} → World → Mode → Stop → ℕ → Tape → Outcome A
stops_in w mode (stops.Fault kind) line tape = fault_in w mode kind line tape
stops_in w mode (stops.Rule rule) line tape = Stops (Stopped (stops.Rule rule) line) tape

-- the callers of what is called where a state is owed a cell
abbrev pub waiting_in : State → List Caller
waiting_in (Begin function arguments line) = []
waiting_in (At a callers place []) = callers
waiting_in (At a callers place (owed ∷ rest)) = record { activation = a; place = place; stack = rest } ∷ callers

-- what comes of an event in a world, with n steps to spare behind it
module _ (w : World) (code : Code) (n : ℕ) where
  -- something is asked, and the reply is the cell that the state is owed; or it goes on whatever the reply
  abbrev pub asks_behind : Mode → Action → ℕ → State → Tape → Outcome Halt
  asks_behind mode action line new tape = then_do (ask_in w mode action line tape) (λ r t. exec w code n (answered (cell_as types.ULongLong r) new) t)

  abbrev pub tells_behind : Mode → Action → ℕ → State → Tape → Outcome Halt
  tells_behind mode action line new tape = then_do (ask_in w mode action line tape) (λ r t. exec w code n new t)

  abbrev pub mark_behind : MarkKind → ℕ → State → Tape → Outcome Halt
  mark_behind marks.Start line new tape = tells_behind (mode_of new) Start line new tape
  mark_behind marks.Finish line new tape = tells_behind (mode_of new) Finish line new tape
  mark_behind marks.Barrier line new tape = tells_behind (mode_of new) Barrier line new tape
  mark_behind (marks.Wait address) line new tape = tells_behind (mode_of new) (Wait address) line new tape
  mark_behind marks.Started line new tape = exec w code n (answered (truth (makes_tasks tape)) new) tape

  -- a task is called: its body is run, or the call returns at once
  abbrev pub shaped_behind : Submitted → Routine → Option Shape → State → Tape → Outcome Halt
  shaped_behind s f None new tape = Goes Stuck tape
  shaped_behind s f (Some shape) new tape =
      then_do (ask w (Calls (call_of s.function f shape s.arguments.items s.dims.items (base_of new))) s.line tape)
      (λ r t. behind_call w (exec w code n) Goes r s.function f s.arguments.items s.line (waiting_in new) new t)

  abbrev pub submit_behind : Submitted → Option Routine → State → Tape → Outcome Halt
  submit_behind s None new tape = Goes Stuck tape
  submit_behind s (Some f) new tape = shaped_behind s f f.task new tape

  abbrev pub behind : Event → State → Tape → Outcome Halt
  behind (events.Out bytes line) new tape = asks_behind (mode_of new) (Out bytes) line new tape
  behind (events.In line) new tape = asks_behind (mode_of new) In line new tape
  behind (events.Malloc size line) new tape = asks_behind (mode_of new) (Malloc size) line new tape
  behind (events.Submit s) new tape = submit_behind s (slice_get code.functions s.function) new tape
  behind (events.Mark kind line) new tape = mark_behind kind line new tape
  behind (events.Ended value line) new tape = Goes (Finished value (base_of new) line) tape
  behind (events.Stopped stop mode line) new tape = stops_in w (mode_as mode) stop line tape

-- From a tape on, the machine goes on by itself to a later tape, and there comes what comes of the event.
abbrev pub Does : World → Code → State → Event → State → Tape → Tape → Type 0
Does w code old e new tape later = (steps : ℕ) × ((n : ℕ) → exec w code (steps + suc n) old tape ≡ behind w code n e new later)

-- the space at an event; nothing is said of it at a stop
abbrev pub IsLeft : {S : Type 0} → Event → S → S → Type 0
IsLeft (events.Out bytes line) end space = end ≡ space
IsLeft (events.In line) end space = end ≡ space
IsLeft (events.Malloc size line) end space = end ≡ space
IsLeft (events.Submit s) end space = end ≡ space
IsLeft (events.Mark kind line) end space = end ≡ space
IsLeft (events.Ended value line) end space = end ≡ space
IsLeft (events.Stopped stop mode line) end space = Unit {0}

-- In every world that replies to the actions of a machine as the space does, the machine comes from a tape with the old space to a
-- tape with the new one, writes nothing on the way, and there is the event.
pub record Reaches {S : Type 0} (reply : S → Action → Reply) (learn : S → Action → S) (code : Code) (old : State) (space : S) (e : Event) (new : State) (space' : S) : Type 0 where
  pub end : S
  pub is_left : IsLeft e end space'
  pub does : Along reply learn space end (λ w tape later. Does w code old e new tape later)

-- ---- what a run to an event leaves

-- fewer units are left, or as many and fewer steps
abbrev pub IsLower : (units' steps' units steps : ℕ) → Type 0
IsLower units' steps' units steps = (units' < units) ⊎ ((units' ≡ units) × (steps' < steps))

-- by all plans of the code the units fall, or the steps that are left
abbrev pub Falls : Code → State → ℕ → State → ℕ → Type 0
Falls code old units new units' =
    (plans : List Plan) (steps : ℕ) → IsSound code plans → IsAt code plans steps old → (next : ℕ) × IsAt code plans next new × IsLower units' next units steps

-- a mark that asks is owed an answer
abbrev pub IsOwedAt : MarkKind → State → Type 0
IsOwedAt marks.Started new = IsOwed new
IsOwedAt marks.Start new = Unit {0}
IsOwedAt marks.Finish new = Unit {0}
IsOwedAt marks.Barrier new = Unit {0}
IsOwedAt (marks.Wait address) new = Unit {0}

-- a task's call has an argument for each parameter, of no more bytes than that has, and the dimensions of the task's shape
pub record IsWhole (code : Code) (s : Submitted) : Type 0 where
  pub function : Routine
  pub shape : Shape
  pub is_there : slice_get code.functions s.function ≡ Some function
  pub is_task : function.task ≡ Some shape
  pub arguments : length s.arguments.items ≡ length function.parameters
  pub narrowed : narrowed_to function.parameters s.arguments.items ≡ s.arguments.items
  pub dimensions : length s.dims.items ≡ all_dimensions shape.arguments

-- the machine goes on behind an event: the units have fallen, or the steps that are left, and its frames stand at the space's stack
-- place
pub record GoesOnBehind (code : Code) (old : State) (units : ℕ) (new : State) (units' : ℕ) (place : ℕ) : Type 0 where
  pub falls : Falls code old units new units'
  pub stacked : IsStacked code place new

-- After an event that is owed an answer the machine has a cell for it, and goes on. A function that ends has its frame. A task's call is
-- whole.
abbrev pub Leaves : Code → State → ℕ → Event → State → ℕ → (place : ℕ) → Type 0
Leaves code old units (events.Out bytes line) new units' place = IsOwed new × GoesOnBehind code old units new units' place
Leaves code old units (events.In line) new units' place = IsOwed new × GoesOnBehind code old units new units' place
Leaves code old units (events.Malloc size line) new units' place = IsOwed new × GoesOnBehind code old units new units' place
Leaves code old units (events.Submit s) new units' place = IsOwed new × GoesOnBehind code old units new units' place × IsWhole code s
Leaves code old units (events.Mark kind line) new units' place = IsOwedAt kind new × GoesOnBehind code old units new units' place
Leaves code old units (events.Ended value line) new units' place = IsInside new × IsStacked code place new
Leaves code old units (events.Stopped stop mode line) new units' place = Unit {0}
