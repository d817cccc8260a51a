-- What a machine's run to the next event does, over a space and with units.
use Rattle.std.specs.Prelude.{◌≡◌, ℕ, zero, suc, true, ◌+◌, ◌<◌, ◌⊎◌, List, [], ◌∷◌, ◌++◌, length, Some, slice_get}
use Rattle.css_base.specs.declared.ending.Stop.{Stop}
use Rattle.css_semantics.specs.Dialogue.{Action, Reply, Out, Calls, Returns, Start, Finish, Barrier, Call, Tape, World, Outcome, Goes, Stops, Stopped, item, then_do, ask}
use Rattle.css_semantics.specs.Worlds.{state_after, AreOfMachine, Follows}
use Rattle.css_semantics.specs.Tasks.{is_started}
use Rattle.css_vm.specs.declared.code.MarkKind.{MarkKind}
use Rattle.css_vm.specs.declared.code.MarkKind.TheVariants as marks
use Rattle.css_vm.specs.declared.machine.Event.{Event}
use Rattle.css_vm.specs.declared.machine.Event.TheVariants as events
use Rattle.css_vm.specs.Cells.{truth}
use Rattle.css_vm.specs.declared.machine.Submitted.{Submitted}
use Rattle.css_vm.specs.Code.{Routine, Shape, Code, all_dimensions, narrowed_to, call_of}
use Rattle.css_vm.specs.Machine.{State, Begin, At, Caller, Finished, After, On, stuck, entered, go_on, frame_of, exec, answered, IsOwed}
use Rattle.css_vm.specs.Soundness.{Spot, IsSound, IsAt}

-- ---- frames

-- the base of the innermost frame
abbrev pub base_of : State → ℕ
base_of (Begin function arguments line) = 0
base_of (At a callers place stack) = a.base

abbrev pub IsInside : State → Type 0
IsInside (Begin function arguments line) = ⊥
IsInside (At a callers place stack) = Unit {0}

-- the callers' frames stand directly above a place, each above the one that it called
abbrev pub StandAbove : Code → (place : ℕ) → List Caller → Type 0
StandAbove code place [] = Unit {0}
StandAbove code place (c ∷ callers) =
    (c.activation.base ≡ place) × StandAbove code (c.activation.base + frame_of (slice_get code.functions c.activation.function)) callers

-- The machine's frames stand one above the other, the innermost at the space's stack place.
abbrev pub IsStacked : Code → (place : ℕ) → State → Type 0
IsStacked code place (Begin function arguments line) = Unit {0}
IsStacked code place (At a callers at stack) =
    (a.base ≡ place) × StandAbove code (a.base + frame_of (slice_get code.functions a.function)) callers

-- ---- what a run to an event does

-- In each world that replies to the actions of a machine as a space does from a tape on, the machine adds to the tape by itself, and
-- comes so from the old space to the new one; and this holds of the world, the tape and the longer tape. (Units are a part of the
-- space here.)
abbrev pub Along : {S : Type 0} → (S → Action → Reply) → (S → Action → S) → S → S → (World → Tape → Tape → Type 0) → Type 0
Along reply learn space space' Holds = (w : World) (tape : Tape) → Follows w reply learn tape space →
    (more : Tape) × AreOfMachine more × (state_after learn space more ≡ space') × Holds w tape (more ++ tape)

-- the outcome is this stop in a line, and the tape is known
abbrev pub StopsAt : {A : Type 0} → Stop → ℕ → Outcome A → Tape → Type 0
StopsAt stop line o tape = o ≡ Stops (Stopped stop line) tape

-- From a tape on, the machine goes on by itself to a later tape, and then does what a mark tells, with n steps to spare.
abbrev pub DoesMark : World → Code → State → MarkKind → State → ℕ → (steps n : ℕ) → Tape → Tape → Type 0
DoesMark w code old marks.Start new line steps n tape later =
    exec w code (steps + suc n) old tape ≡ then_do (ask w Start line later) (λ r t. exec w code n new t)
DoesMark w code old marks.Finish new line steps n tape later =
    exec w code (steps + suc n) old tape ≡ then_do (ask w Finish line later) (λ r t. exec w code n new t)
DoesMark w code old marks.Barrier new line steps n tape later =
    exec w code (steps + suc n) old tape ≡ then_do (ask w Barrier line later) (λ r t. exec w code n new t)
DoesMark w code old marks.Started new line steps n tape later =
    exec w code (steps + suc n) old tape ≡ exec w code n (answered (truth (is_started later)) new) later

-- Behind the item of a task's call, where the world replies and the machine's state is owed its answer: the body is run, or the call
-- returns at once.
abbrev pub behind_call : World → (line function : ℕ) → Routine → (arguments : List ℕ) → (reply : ℕ) → State → Tape → Outcome After
behind_call w line k f arguments zero (At a callers place (owed ∷ rest)) tape =
    then_do (ask w Returns line tape) (λ r t. Goes (On (At a callers place (0 ∷ rest))) t)
behind_call w line k f arguments (suc reply) (At a callers place (owed ∷ rest)) tape =
    then_do (entered w f arguments line tape) (λ base t.
    Goes (On (At (record { function = k; base = base; is_task = true }) (record { activation = a; place = place; stack = rest } ∷ callers) 0 [])) t)
behind_call w line k f arguments reply _ tape = stuck tape

-- The same for an event.
abbrev pub Does : World → Code → State → Event → State → Tape → Tape → Type 0
Does w code old (events.Out bytes) new tape later =
    (steps : ℕ) × (line : ℕ) × ((n : ℕ) → exec w code (steps + suc n) old tape ≡ then_do (ask w (Out bytes) line later) (λ r t. exec w code n (answered r new) t))
Does w code old (events.Submit s) new tape later =
    (steps : ℕ) × (f : Routine) × (shape : Shape) × (slice_get code.functions s.function ≡ Some f) × (f.task ≡ Some shape)
    × ((n : ℕ) → exec w code (steps + suc n) old tape
    ≡ then_do (ask w (Calls (call_of s.function f shape s.arguments.items s.dims.items (base_of new))) s.line later) (λ r t.
    then_do (behind_call w s.line s.function f s.arguments.items r new t) (go_on (exec w code n))))
Does w code old (events.Mark kind line) new tape later = (steps : ℕ) × ((n : ℕ) → DoesMark w code old kind new line steps n tape later)
Does w code old (events.Ended value line) new tape later =
    (steps : ℕ) × ((n : ℕ) → exec w code (steps + suc n) old tape ≡ Goes (Finished value (base_of new) line) later)
Does w code old (events.Stopped stop line) new tape later =
    (steps : ℕ) × ((n : ℕ) → StopsAt stop line (exec w code (steps + suc n) old tape) later)

-- the space at an event; nothing is said of it at a stop
abbrev pub IsLeft : {S : Type 0} → Event → S → S → Type 0
IsLeft (events.Stopped stop line) end space = Unit {0}
IsLeft e end space = end ≡ space

-- In every world that replies to the actions of a machine as the space does, the machine comes from a tape with the old space to a
-- tape with the new one, writes nothing on the way, and there is the event.
pub record Reaches {S : Type 0} (reply : S → Action → Reply) (learn : S → Action → S) (code : Code) (old : State) (space : S) (e : Event) (new : State) (space' : S) : Type 0 where
  pub end : S
  pub is_left : IsLeft e end space'
  pub does : Along reply learn space end (λ w tape later. Does w code old e new tape later)

-- ---- what a run to an event leaves

-- fewer units are left, or as many and fewer steps
abbrev pub IsLower : (units' steps' units steps : ℕ) → Type 0
IsLower units' steps' units steps = (units' < units) ⊎ ((units' ≡ units) × (steps' < steps))

-- by all plans of the code the units fall, or the steps that are left
abbrev pub Falls : Code → State → ℕ → State → ℕ → Type 0
Falls code old units new units' =
    (plans : List (List Spot)) (steps : ℕ) → IsSound code plans → IsAt code plans steps old → (next : ℕ) × IsAt code plans next new × IsLower units' next units steps

-- a mark that asks is owed an answer
abbrev pub IsOwedAt : MarkKind → State → Type 0
IsOwedAt marks.Started new = IsOwed new
IsOwedAt kind new = Unit {0}

-- a task's call has an argument for each parameter, of no more bytes than that has, and the dimensions of the task's shape
pub record IsWhole (code : Code) (s : Submitted) : Type 0 where
  pub function : Routine
  pub shape : Shape
  pub is_there : slice_get code.functions s.function ≡ Some function
  pub is_task : function.task ≡ Some shape
  pub arguments : length s.arguments.items ≡ length function.parameters
  pub narrowed : narrowed_to function.parameters s.arguments.items ≡ s.arguments.items
  pub dimensions : length s.dims.items ≡ all_dimensions shape.arguments

-- After an event that is owed an answer the machine has a cell for it; the units have fallen, or the steps that are left; and its
-- frames stand at the space's stack place. A function that ends has its frame. A task's call is whole.
abbrev pub Leaves : Code → State → ℕ → Event → State → ℕ → (place : ℕ) → Type 0
Leaves code old units (events.Out bytes) new units' place = IsOwed new × Falls code old units new units' × IsStacked code place new
Leaves code old units (events.Submit s) new units' place = IsOwed new × Falls code old units new units' × IsStacked code place new × IsWhole code s
Leaves code old units (events.Mark kind line) new units' place = IsOwedAt kind new × Falls code old units new units' × IsStacked code place new
Leaves code old units (events.Ended value line) new units' place = IsInside new × IsStacked code place new
Leaves code old units (events.Stopped stop line) new units' place = Unit {0}
