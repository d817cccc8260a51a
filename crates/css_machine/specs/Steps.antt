-- What the machine's inner functions do: steps inside a function, entries, and rounds of steps up to an entry or a return.
use Rattle.std.specs.Prelude.{◌≡◌, ℕ, suc, ◌+◌, ◌<◌, ◌≤◌, ◌⊎◌, Bool, true, false, List, ◌∷◌, [], Option, Some, None, slice_get, nat_eq, if◌then◌else◌}
use Rattle.css_base.specs.declared.ending.Stop.{Stop}
use Rattle.css_base.specs.declared.ending.Stop.TheVariants as stops
use Rattle.css_semantics.specs.Dialogue.{Action, Enter, Turn, Leave, Load, Store, Out, In, Malloc, Calls, Returns, Start, Finish, Barrier, Wait, WaitFault, DimFault, Fault, End, Reply, Says, Tape, World, Goes, Mode, Plain}
use Rattle.css_semantics.specs.Units.{with_units, metered, spending}
use Rattle.css_isa.specs.declared.code.Instr.{Instr}
use Rattle.css_isa.specs.declared.code.Mark.{Mark}
use Rattle.css_isa.specs.declared.code.Op.{Op}
use Rattle.css_isa.specs.declared.code.Op.TheVariants as ops
use Rattle.css_isa.specs.Cells.{cell_as}
use Rattle.css_isa.specs.Code.{Routine, Code}
use Rattle.css_isa.specs.Effects.{Effect, Gives, Asks, Tells, Faults, Lacks, effect}
use Rattle.css_isa.specs.Roles.{Role, Straight, Turning, Outward, Telling, Awaiting, Changing, Testing, Jumping, Branching, Calling, Submitting, Returning, role_of_mark, role_of}
use Rattle.css_isa.specs.Spaces.{IsRefusal}
use Rattle.css_isa.specs.Steps.{Activation, Caller, State, Begin, At, entered, stores}
use Rattle.css_isa.specs.Machine.{exec, IsOwed}
use Rattle.css_isa.specs.Soundness.{Plan, IsSound, IsAt}
use Rattle.css_machine.specs.declared.event.Mode as coded
use Rattle.css_machine.specs.declared.event.Event.{Event}
use Rattle.css_machine.specs.declared.event.Event.TheVariants as events
use Rattle.css_machine.specs.declared.operations.Flow.{Flow}
use Rattle.css_machine.specs.declared.operations.Flow.TheVariants as flows
use Rattle.css_machine.specs.declared.step.Rest.{Rest}
use Rattle.css_machine.specs.declared.step.Rest.TheVariants as rests
use Rattle.css_machine.specs.declared.turns.Pause.{Pause}
use Rattle.css_machine.specs.declared.turns.Pause.TheVariants as pauses
use Rattle.css_machine.specs.declared.rounds.Round.{Round}
use Rattle.css_machine.specs.declared.rounds.Round.TheVariants as rounds
use Rattle.css_machine.specs.Modes.{mode_as}
use Rattle.css_machine.specs.Events.{mode_of, Along, stops_in, behind, Reaches, Leaves, IsStacked, IsOwedAt, IsWhole}
use Rattle.css_machine.specs.States.{depth}

-- ---- what instructions inside a function are

-- those that only make cells of others, or ask the memory
abbrev pub makes_cells : Role → Bool
makes_cells (Straight needed taken given) = true
makes_cells Turning = false
makes_cells (Outward taken given) = false
makes_cells Telling = false
makes_cells Awaiting = false
makes_cells (Changing mode) = false
makes_cells Testing = false
makes_cells (Jumping to) = false
makes_cells (Branching to) = false
makes_cells (Calling k) = false
makes_cells (Submitting k) = false
makes_cells Returning = false

abbrev pub is_straight : Op → Bool
is_straight op = makes_cells (role_of op)

-- those at which the steps of an activation pause
abbrev pub pauses_at : Role → Bool
pauses_at (Straight needed taken given) = false
pauses_at Turning = false
pauses_at (Outward taken given) = true
pauses_at Telling = true
pauses_at Awaiting = true
pauses_at (Changing mode) = false
pauses_at Testing = true
pauses_at (Jumping to) = false
pauses_at (Branching to) = false
pauses_at (Calling k) = true
pauses_at (Submitting k) = true
pauses_at Returning = true

abbrev pub is_pause : Op → Bool
is_pause op = pauses_at (role_of op)

-- those of them that are events
abbrev pub is_event_at : Role → Bool
is_event_at (Straight needed taken given) = false
is_event_at Turning = false
is_event_at (Outward taken given) = true
is_event_at Telling = true
is_event_at Awaiting = true
is_event_at (Changing mode) = false
is_event_at Testing = true
is_event_at (Jumping to) = false
is_event_at (Branching to) = false
is_event_at (Calling k) = false
is_event_at (Submitting k) = true
is_event_at Returning = false

abbrev pub makes_event : Op → Bool
makes_event op = is_event_at (role_of op)

-- how many cells the others need, and for how many they need room
abbrev pub cells_inside : Role → ℕ
cells_inside (Straight needed taken given) = needed
cells_inside Turning = 0
cells_inside (Outward taken given) = 0
cells_inside Telling = 0
cells_inside Awaiting = 0
cells_inside (Changing mode) = 0
cells_inside Testing = 0
cells_inside (Jumping to) = 0
cells_inside (Branching to) = 1
cells_inside (Calling k) = 0
cells_inside (Submitting k) = 0
cells_inside Returning = 0

abbrev pub room_inside : Role → ℕ
room_inside (Straight needed taken given) = 1
room_inside Turning = 0
room_inside (Outward taken given) = 0
room_inside Telling = 0
room_inside Awaiting = 0
room_inside (Changing mode) = 0
room_inside Testing = 0
room_inside (Jumping to) = 0
room_inside (Branching to) = 0
room_inside (Calling k) = 0
room_inside (Submitting k) = 0
room_inside Returning = 0

-- ---- one instruction inside a function, over a space

-- what a memory replies to without moving the stack place
abbrev pub IsAccess : Action → Type 0
IsAccess (Load address width) = Unit {0}
IsAccess (Store address bytes) = Unit {0}
IsAccess (Enter size) = ⊥
IsAccess Turn = ⊥
IsAccess (Leave base size) = ⊥
IsAccess (Out bytes) = ⊥
IsAccess In = ⊥
IsAccess (Malloc size) = ⊥
IsAccess (Calls call) = ⊥
IsAccess Returns = ⊥
IsAccess Start = ⊥
IsAccess Finish = ⊥
IsAccess Barrier = ⊥
IsAccess (Wait address) = ⊥
IsAccess WaitFault = ⊥
IsAccess DimFault = ⊥
IsAccess (Fault kind) = ⊥
IsAccess (End result) = ⊥

-- what is done at a mark: it goes on in another mode, or pauses
abbrev pub Changes : Flow → Role → Mode → (place : ℕ) → Mode → (place' : ℕ) → Type 0
Changes flows.Goes role mode place mode' place' = (role ≡ Changing mode') × (place' ≡ place + 1)
Changes flows.Turns role mode place mode' place' = ⊥
Changes flows.Pauses role mode place mode' place' = (pauses_at role ≡ true) × (mode' ≡ mode) × (place' ≡ place)
Changes (flows.Stops stop) role mode place mode' place' = ⊥

abbrev pub Passes : Mark → Mode → (place : ℕ) → Flow → Mode → (place' : ℕ) → Type 0
Passes mark mode place flow mode' place' = Changes flow (role_of_mark mark) mode place mode' place'

module _ {S : Type 0} (reply : S → Action → Reply) (learn : S → Action → S) where
  -- an effect makes these cells, and this space of the old one
  abbrev pub Works : Effect → S → (cells : List ℕ) → S → Type 0
  Works (Gives cells) space cells' space' = (cells' ≡ cells) × (space' ≡ space)
  Works (Asks action t cells) space cells' space' =
      IsAccess action × ((r : ℕ) × (reply space action ≡ Says r) × (cells' ≡ cell_as t r ∷ cells) × (space' ≡ learn space action))
  Works (Tells action cells) space cells' space' =
      IsAccess action × ((r : ℕ) × (reply space action ≡ Says r) × (cells' ≡ cells) × (space' ≡ learn space action))
  Works (Faults kind) space cells' space' = ⊥
  Works Lacks space cells' space' = ⊥

  -- or it comes to a stop
  abbrev pub Breaks : Effect → S → Stop → Type 0
  Breaks (Gives cells) space stop = ⊥
  Breaks (Asks action t cells) space stop = IsAccess action × IsRefusal (reply space action) stop
  Breaks (Tells action cells) space stop = IsAccess action × IsRefusal (reply space action) stop
  Breaks (Faults kind) space stop = stop ≡ stops.Fault kind
  Breaks Lacks space stop = ⊥

  -- an instruction at a place, in a mode, goes on to another
  abbrev pub StepsTo : Role → Op → (base : ℕ) → Mode → (place : ℕ) → List ℕ → S → Mode → (place' : ℕ) → List ℕ → S → Type 0
  StepsTo (Straight needed taken given) op base mode place own space mode' place' own' space' =
      (mode' ≡ mode) × (place' ≡ place + 1) × Works (effect base op own) space own' space'
  StepsTo (Changing other) op base mode place own space mode' place' own' space' = (mode' ≡ other) × (place' ≡ place + 1) × (own' ≡ own) × (space' ≡ space)
  StepsTo (Jumping to) op base mode place own space mode' place' own' space' = (mode' ≡ mode) × (place' ≡ to) × (own' ≡ own) × (space' ≡ space)
  StepsTo (Branching to) op base mode place own space mode' place' own' space' =
      (mode' ≡ mode) × ((cell : ℕ) × (own ≡ cell ∷ own') × (place' ≡ (if nat_eq cell 0 then to else place + 1)) × (space' ≡ space))
  StepsTo Turning op base mode place own space mode' place' own' space' = ⊥
  StepsTo (Outward taken given) op base mode place own space mode' place' own' space' = ⊥
  StepsTo Telling op base mode place own space mode' place' own' space' = ⊥
  StepsTo Awaiting op base mode place own space mode' place' own' space' = ⊥
  StepsTo Testing op base mode place own space mode' place' own' space' = ⊥
  StepsTo (Calling k) op base mode place own space mode' place' own' space' = ⊥
  StepsTo (Submitting k) op base mode place own space mode' place' own' space' = ⊥
  StepsTo Returning op base mode place own space mode' place' own' space' = ⊥

  -- or stops
  abbrev pub StopsAt : Role → Op → (base : ℕ) → List ℕ → S → Stop → Type 0
  StopsAt (Straight needed taken given) op base own space stop = Breaks (effect base op own) space stop
  StopsAt Turning op base own space stop = ⊥
  StopsAt (Outward taken given) op base own space stop = ⊥
  StopsAt Telling op base own space stop = ⊥
  StopsAt Awaiting op base own space stop = ⊥
  StopsAt (Changing mode) op base own space stop = ⊥
  StopsAt Testing op base own space stop = ⊥
  StopsAt (Jumping to) op base own space stop = ⊥
  StopsAt (Branching to) op base own space stop = ⊥
  StopsAt (Calling k) op base own space stop = ⊥
  StopsAt (Submitting k) op base own space stop = ⊥
  StopsAt Returning op base own space stop = ⊥

  -- what is done at an instruction: it goes on, or stops, or nothing is done at a turn and at a pause
  abbrev pub Flows : Op → (base : ℕ) → Mode → (place : ℕ) → List ℕ → S → Flow → Mode → (place' : ℕ) → List ℕ → S → Type 0
  Flows op base mode place own space flows.Goes mode' place' own' space' = StepsTo (role_of op) op base mode place own space mode' place' own' space'
  Flows op base mode place own space flows.Turns mode' place' own' space' = (op ≡ ops.Turn) × (mode' ≡ mode) × (place' ≡ place) × (own' ≡ own) × (space' ≡ space)
  Flows op base mode place own space flows.Pauses mode' place' own' space' = (is_pause op ≡ true) × (mode' ≡ mode) × (place' ≡ place) × (own' ≡ own) × (space' ≡ space)
  Flows op base mode place own space (flows.Stops stop) mode' place' own' space' = (mode' ≡ mode) × (place' ≡ place) × (space' ≡ space) × StopsAt (role_of op) op base own space stop

-- ---- steps inside a function

-- where the machine is inside a function: in a mode, at a place, with a stack
pub record Here : Type 0 where
  pub mode : Mode
  pub place : ℕ
  pub own : List ℕ

abbrev pub here : Mode → (place : ℕ) → List ℕ → Here
here mode place own = record { mode = mode; place = place; own = own }

-- the state of an activation there
abbrev pub at : Activation → List Caller → Here → State
at a callers h = At (record a { mode = h.mode }) callers h.place h.own

-- the machine goes on by itself for so many steps, and comes to a state
abbrev pub ComesOn : Code → State → (steps : ℕ) → State → World → Tape → Tape → Type 0
ComesOn code old steps new w tape later = (n : ℕ) → exec w code (steps + n) old tape ≡ exec w code n new later

-- it goes on by itself for so many steps, and stops at the next
abbrev pub ComesToStop : Code → State → (steps : ℕ) → Mode → Stop → (line : ℕ) → World → Tape → Tape → Type 0
ComesToStop code old steps mode stop line w tape later = (n : ℕ) → exec w code (steps + suc n) old tape ≡ stops_in w mode stop line later

-- a function runs over a frame at a base
abbrev pub IsOver : Code → Routine → (base : ℕ) → Activation → Type 0
IsOver code f base a = (slice_get code.functions a.function ≡ Some f) × (a.base ≡ base)

-- Inside a function the machine goes on by itself for so many steps, whatever the code and the callers, and by all plans the steps that
-- are left fall by as many.
pub record RanInside {S : Type 0} (reply : S → Action → Reply) (learn : S → Action → S) (f : Routine) (base : ℕ) (old : Here) (space : S) (steps : ℕ) (new : Here) (space' : S) : Type 0 where
  pub goes : (code : Code) (a : Activation) (callers : List Caller) → IsOver code f base a
      → Along reply learn space space' (ComesOn code (at a callers old) steps (at a callers new))
  pub falls : (code : Code) (plans : List Plan) (a : Activation) (callers : List Caller) (left : ℕ) → IsOver code f base a → IsSound code plans → IsAt code plans left (at a callers old)
      → (next : ℕ) × (next + steps ≤ left) × IsAt code plans next (at a callers new)

-- there is room for as many cells as there are steps left
abbrev pub HasRoom : Routine → (base : ℕ) → Here → (room : ℕ) → Type 0
HasRoom f base h room =
    (code : Code) × (plans : List Plan) × (a : Activation) × (left : ℕ) × IsOver code f base a × IsSound code plans × IsAt code plans left (at a [] h) × (left ≤ room)

-- an instruction stands at a place of a function's body
abbrev pub HasInstr : Routine → (place : ℕ) → Op → (line : ℕ) → Type 0
HasInstr f place op line = (i : Instr) × (slice_get f.body place ≡ Some i) × (i.op ≡ op) × (i.line ≡ line)

-- inside it the machine goes on by itself for so many steps, and stops in a mode and a line
abbrev pub StopsInside : {S : Type 0} → (S → Action → Reply) → (S → Action → S) → Routine → (base : ℕ) → Here → S → Stop → Mode → (line : ℕ) → Type 0
StopsInside {S} reply learn f base old space stop mode line =
    (code : Code) (a : Activation) (callers : List Caller) → IsOver code f base a
    → (end : S) × (steps : ℕ) × Along reply learn space end (ComesToStop code (at a callers old) steps mode stop line)

-- steps up to a turn, a pause or a stop
abbrev pub Rests : {S : Type 0} → (S → Action → Reply) → (S → Action → S) → Routine → (base : ℕ) → Here → S → Rest → Here → S → Type 0
Rests reply learn f base old space rests.Turns new space' =
    (steps : ℕ) × RanInside reply learn f base old space steps new space' × ((i : Instr) × (slice_get f.body new.place ≡ Some i) × (i.op ≡ ops.Turn))
Rests reply learn f base old space rests.Pauses new space' =
    (steps : ℕ) × RanInside reply learn f base old space steps new space' × ((i : Instr) × (slice_get f.body new.place ≡ Some i) × (is_pause i.op ≡ true))
Rests reply learn f base old space (rests.Stops stop line) new space' = StopsInside reply learn f base old space stop new.mode line

-- ---- parts of a run

-- The units and the steps that are left don't rise: fewer units are left, or as many and no more steps.
abbrev pub IsNoHigher : (units' steps' units steps : ℕ) → Type 0
IsNoHigher units' steps' units steps = (units' < units) ⊎ ((units' ≡ units) × (steps' ≤ steps))

-- The machine goes on by itself over a space and with units, and the units and the steps that are left don't rise.
pub record Went {S : Type 0} (reply : S → Action → Reply) (learn : S → Action → S) (code : Code) (old : State) (space : S) (units : ℕ) (new : State) (space' : S) (units' : ℕ) : Type 0 where
  pub steps : ℕ
  pub goes : Along (metered reply) (spending learn) (with_units space units) (with_units space' units') (ComesOn code old steps new)
  pub falls : (plans : List Plan) (left : ℕ) → IsSound code plans → IsAt code plans left old → (next : ℕ) × IsAt code plans next new × IsNoHigher units' next units left

-- the same inside a function, whatever the code and the callers
abbrev pub WentInside : {S : Type 0} → (S → Action → Reply) → (S → Action → S) → Routine → (base : ℕ) → Here → S → (units : ℕ) → Here → S → (units' : ℕ) → Type 0
WentInside reply learn f base old space units new space' units' =
    (code : Code) (a : Activation) (callers : List Caller) → IsOver code f base a → Went reply learn code (at a callers old) space units (at a callers new) space' units'

-- steps and turns up to a pause, or to a turn behind which there may be too little room, or to a stop
abbrev pub PausesInside : {S : Type 0} → (S → Action → Reply) → (S → Action → S) → Routine → (base : ℕ) → Here → S → (units : ℕ) → Pause → Here → S → (units' : ℕ) → Type 0
PausesInside reply learn f base old space units pauses.At new space' units' =
    WentInside reply learn f base old space units new space' units' × (units' ≤ units) × ((i : Instr) × (slice_get f.body new.place ≡ Some i) × (is_pause i.op ≡ true))
PausesInside reply learn f base old space units pauses.Entered new space' units' = WentInside reply learn f base old space units new space' units' × (units' < units)
PausesInside reply learn f base old space units (pauses.Stopped stop line) new space' units' =
    StopsInside (metered reply) (spending learn) f base old (with_units space units) stop new.mode line

-- ---- entries

-- arguments are stored, or a store stops
abbrev pub StoresAll : {S : Type 0} → (S → Action → Reply) → (S → Action → S) → (address : ℕ) → (parameters arguments : List ℕ) → S → S → Type 0
StoresAll reply learn address parameters arguments space space' =
    (line : ℕ) → Along reply learn space space' (λ w tape later. stores w address parameters arguments line tape ≡ Goes 0 later)

abbrev pub StopsStoring : {S : Type 0} → (S → Action → Reply) → (S → Action → S) → (address : ℕ) → (parameters arguments : List ℕ) → S → Stop → Type 0
StopsStoring {S} reply learn address parameters arguments space stop =
    (line : ℕ) → (end : S) × Along reply learn space end (λ w tape later. stores w address parameters arguments line tape ≡ stops_in w Plain stop line later)

-- a function is entered with its arguments, or the entry stops
abbrev pub Enters : {S : Type 0} → (S → Action → Reply) → (S → Action → S) → Routine → (arguments : List ℕ) → S → (base : ℕ) → S → Type 0
Enters reply learn f arguments space base space' =
    (line : ℕ) → Along reply learn space space' (λ w tape later. entered w f arguments line tape ≡ Goes base later)

abbrev pub StopsEntering : {S : Type 0} → (S → Action → Reply) → (S → Action → S) → Routine → (arguments : List ℕ) → S → Stop → Type 0
StopsEntering {S} reply learn f arguments space stop =
    (line : ℕ) → (end : S) × Along reply learn space end (λ w tape later. entered w f arguments line tape ≡ stops_in w Plain stop line later)

-- ---- rounds

-- the machine is inside a function that wasn't called as a task, at an instruction
abbrev pub IsBefore : Code → Op → (line : ℕ) → State → Type 0
IsBefore code op line (Begin function arguments at) = ⊥
IsBefore code op line (At a callers place stack) =
    (f : Routine) × (slice_get code.functions a.function ≡ Some f) × HasInstr f place op line × (a.is_task ≡ false)

-- it is before an instruction at which the steps pause
abbrev pub IsPaused : Code → State → Type 0
IsPaused code s = (op : Op) × (line : ℕ) × IsBefore code op line s × (is_pause op ≡ true)

-- by all plans of the code the steps that are left fall
abbrev pub FewerSteps : Code → State → State → Type 0
FewerSteps code old new = (plans : List Plan) (steps : ℕ) → IsSound code plans → IsAt code plans steps old → (next : ℕ) × IsAt code plans next new × (next < steps)

-- what an event that goes on leaves
abbrev pub IsLeftBehind : Code → Event → State → Type 0
IsLeftBehind code (events.Out bytes line) new = IsOwed new
IsLeftBehind code (events.In line) new = IsOwed new
IsLeftBehind code (events.Malloc size line) new = IsOwed new
IsLeftBehind code (events.Submit s) new = IsOwed new × IsWhole code s
IsLeftBehind code (events.Mark kind line) new = IsOwedAt kind new
IsLeftBehind code (events.Ended value line) new = ⊥
IsLeftBehind code (events.Stopped stop mode line) new = ⊥

-- the next step is an event, in every world
pub record Makes (code : Code) (old : State) (e : Event) (new : State) : Type 0 where
  pub does : (w : World) (n : ℕ) (tape : Tape) → exec w code (suc n) old tape ≡ behind w code n e new tape
  pub falls : FewerSteps code old new
  pub stacked : (place : ℕ) → IsStacked code place old → IsStacked code place new
  pub leaves : IsLeftBehind code e new

-- what a run to an event reaches and leaves, with units
abbrev pub Comes : {S : Type 0} → (S → Action → Reply) → (S → Action → S) → (S → ℕ) → Code → State → S → ℕ → Event → State → S → ℕ → Type 0
Comes reply learn place code old space units e new space' units' =
    Reaches (metered reply) (spending learn) code old (with_units space units) e new (with_units space' units') × Leaves code old units e new units' (place space')

-- steps and turns up to a pause
abbrev pub ComesToPause : {S : Type 0} → (S → Action → Reply) → (S → Action → S) → (S → ℕ) → Code → State → S → ℕ → Pause → State → S → ℕ → Type 0
ComesToPause reply learn place code old space units pauses.At new space' units' =
    Went reply learn code old space units new space' units' × IsStacked code (place space') new × (depth new ≡ depth old) × (units' ≤ units) × IsPaused code new
ComesToPause reply learn place code old space units pauses.Entered new space' units' =
    Went reply learn code old space units new space' units' × IsStacked code (place space') new × (units' < units)
ComesToPause reply learn place code old space units (pauses.Stopped stop line) new space' units' =
    (mode : coded.Mode) → mode_as mode ≡ mode_of new → Comes reply learn place code old space units (events.Stopped stop mode line) new space' units'

-- a round of steps up to an entry, which takes a unit, a return to a caller, or an event
abbrev pub ComesRound : {S : Type 0} → (S → Action → Reply) → (S → Action → S) → (S → ℕ) → Code → State → S → ℕ → Round → State → S → ℕ → Type 0
ComesRound reply learn place code old space units rounds.Enters new space' units' =
    Went reply learn code old space units new space' units' × IsStacked code (place space') new × (units' < units)
ComesRound reply learn place code old space units rounds.Returns new space' units' =
    Went reply learn code old space units new space' units' × IsStacked code (place space') new × (units' ≤ units) × (depth new < depth old)
ComesRound reply learn place code old space units (rounds.Makes e) new space' units' = Comes reply learn place code old space units e new space' units'

-- rounds up to an entry, or to the event before it
abbrev pub ComesToEntry : {S : Type 0} → (S → Action → Reply) → (S → Action → S) → (S → ℕ) → Code → State → S → ℕ → Option Event → State → S → ℕ → Type 0
ComesToEntry reply learn place code old space units None new space' units' = ComesRound reply learn place code old space units rounds.Enters new space' units'
ComesToEntry reply learn place code old space units (Some e) new space' units' = Comes reply learn place code old space units e new space' units'
