-- What the machine's inner functions do: steps inside a function, entries, and rounds of steps up to an entry or a return.
use Rattle.std.specs.Prelude.{◌≡◌, ℕ, suc, ◌+◌, ◌^◌, ◌<◌, ◌≤◌, ◌⊎◌, Bool, true, false, List, length, Option, Some, None, slice_get}
use Rattle.css_base.specs.declared.ending.Stop.{Stop}
use Rattle.css_semantics.specs.Dialogue.{Action, Reply, Tape, World, Goes}
use Rattle.css_semantics.specs.Units.{with_units, metered, spending}
use Rattle.css_vm.specs.declared.code.Instr.{Instr}
use Rattle.css_vm.specs.declared.code.Op.{Op}
use Rattle.css_vm.specs.declared.machine.Event.{Event}
use Rattle.css_vm.specs.declared.machine.Event.TheVariants as events
use Rattle.css_vm.specs.declared.step.Pause.{Pause}
use Rattle.css_vm.specs.declared.step.Pause.TheVariants as pauses
use Rattle.css_vm.specs.declared.rounds.Round.{Round}
use Rattle.css_vm.specs.declared.rounds.Round.TheVariants as rounds
use Rattle.css_vm.specs.Code.{Routine, Code}
use Rattle.css_vm.specs.Roles.{Role, Pushing, Computing, Dividing, Accessing, Jumping, Branching, Calling, Submitting, Marking, Turning, Writing, Returning, role_of}
use Rattle.css_vm.specs.Machine.{State, Begin, At, Caller, exec, entered, stores}
use Rattle.css_vm.specs.Soundness.{Spot, IsSoundBody, IsSound, IsAt}
use Rattle.css_vm.specs.Events.{Along, StopsAt, Reaches, Leaves, IsStacked}
use Rattle.css_vm.specs.Stacks.{running}
use Rattle.css_vm.specs.States.{depth}

-- ---- steps inside a function

-- the instructions at which the steps of an activation pause
abbrev pub pauses_at : Role → Bool
pauses_at (Pushing below) = false
pauses_at (Computing taken given) = false
pauses_at Dividing = false
pauses_at (Accessing taken) = false
pauses_at (Jumping to) = false
pauses_at (Branching to) = false
pauses_at (Calling k) = true
pauses_at (Submitting k) = true
pauses_at (Marking kind) = true
pauses_at Turning = true
pauses_at Writing = true
pauses_at Returning = true

abbrev pub is_pause : Op → Bool
is_pause op = pauses_at (role_of op)

-- a place of a function's body has a height, by a plan that is sound in some code
abbrev pub IsPlaced : Routine → (place height : ℕ) → Type 0
IsPlaced f place height =
    (code : Code) × (plan : List Spot) × (rank : ℕ) × IsSoundBody code f plan × (slice_get plan place ≡ Some (record { height = height; rank = rank }))

-- an instruction stands at a place of a function's body
abbrev pub HasInstr : Routine → (place : ℕ) → Op → (line : ℕ) → Type 0
HasInstr f place op line = (i : Instr) × (slice_get f.body place ≡ Some i) × (i.op ≡ op) × (i.line ≡ line)

-- the machine goes on by itself for so many steps, and comes to a state
abbrev pub ComesOn : Code → State → (steps : ℕ) → State → World → Tape → Tape → Type 0
ComesOn code old steps new w tape later = (n : ℕ) → exec w code (steps + n) old tape ≡ exec w code n new later

-- it goes on by itself for so many steps, and stops at the next
abbrev pub ComesToStop : Code → State → (steps : ℕ) → Stop → (line : ℕ) → World → Tape → Tape → Type 0
ComesToStop code old steps stop line w tape later = (n : ℕ) → StopsAt stop line (exec w code (steps + suc n) old tape) later

-- Inside a function that runs over a frame at a base, the machine goes on by itself for so many steps, whatever the code and the
-- callers, and by each plan the rank falls at each step.
pub record RanInside {S : Type 0} (reply : S → Action → Reply) (learn : S → Action → S) (f : Routine) (base place : ℕ) (stack : List ℕ) (space : S) (steps place' : ℕ) (stack' : List ℕ) (space' : S) : Type 0 where
  pub goes : (code : Code) (function : ℕ) (callers : List Caller) → slice_get code.functions function ≡ Some f →
      Along reply learn space space' (ComesOn code (At (running function base) callers place stack) steps (At (running function base) callers place' stack'))
  pub falls : (code : Code) (plan : List Spot) (rank : ℕ) → IsSoundBody code f plan → slice_get plan place ≡ Some (record { height = length stack; rank = rank }) →
      (next : ℕ) × (next + steps ≤ rank) × (slice_get plan place' ≡ Some (record { height = length stack'; rank = next }))

-- there it goes on by itself, and stops in a line
abbrev pub StopsInside : {S : Type 0} → (S → Action → Reply) → (S → Action → S) → Routine → (base place : ℕ) → List ℕ → S → Stop → (line : ℕ) → Type 0
StopsInside {S} reply learn f base place stack space stop line =
    (code : Code) (function : ℕ) (callers : List Caller) → slice_get code.functions function ≡ Some f →
    (end : S) × (steps : ℕ) × Along reply learn space end (ComesToStop code (At (running function base) callers place stack) steps stop line)

-- the steps pause at an instruction, or stop
abbrev pub Pauses : {S : Type 0} → (S → Action → Reply) → (S → Action → S) → Routine → (base place : ℕ) → List ℕ → S → Pause → (place' : ℕ) → List ℕ → S → Type 0
Pauses reply learn f base place stack space (pauses.At op line) place' stack' space' =
    (steps : ℕ) × RanInside reply learn f base place stack space steps place' stack' space' × HasInstr f place' op line × (is_pause op ≡ true)
Pauses reply learn f base place stack space (pauses.Stopped stop line) place' stack' space' = StopsInside reply learn f base place stack space stop line

-- one step, or a pause before it
abbrev pub Steps : {S : Type 0} → (S → Action → Reply) → (S → Action → S) → Routine → (base place : ℕ) → List ℕ → S → Option Pause → (place' : ℕ) → List ℕ → S → Type 0
Steps reply learn f base place stack space None place' stack' space' = RanInside reply learn f base place stack space 1 place' stack' space'
Steps reply learn f base place stack space (Some pause) place' stack' space' = Pauses reply learn f base place stack space pause place' stack' space'

-- ---- entries

-- arguments are stored, or a store stops
abbrev pub StoresAll : {S : Type 0} → (S → Action → Reply) → (S → Action → S) → (address : ℕ) → (parameters arguments : List ℕ) → S → S → Type 0
StoresAll reply learn address parameters arguments space space' =
    (line : ℕ) → Along reply learn space space' (λ w tape later. stores w address parameters arguments line tape ≡ Goes 0 later)

abbrev pub StopsStoring : {S : Type 0} → (S → Action → Reply) → (S → Action → S) → (address : ℕ) → (parameters arguments : List ℕ) → S → Stop → Type 0
StopsStoring {S} reply learn address parameters arguments space stop =
    (line : ℕ) → (end : S) × Along reply learn space end (λ w tape later. StopsAt stop line (stores w address parameters arguments line tape) later)

-- a function is entered with its arguments, or the entry stops
abbrev pub Enters : {S : Type 0} → (S → Action → Reply) → (S → Action → S) → Routine → (arguments : List ℕ) → S → (base : ℕ) → S → Type 0
Enters reply learn f arguments space base space' =
    (line : ℕ) → Along reply learn space space' (λ w tape later. entered w f arguments line tape ≡ Goes base later)

abbrev pub StopsEntering : {S : Type 0} → (S → Action → Reply) → (S → Action → S) → Routine → (arguments : List ℕ) → S → Stop → Type 0
StopsEntering {S} reply learn f arguments space stop =
    (line : ℕ) → (end : S) × Along reply learn space end (λ w tape later. StopsAt stop line (entered w f arguments line tape) later)

-- ---- rounds

-- a place that an index can count on from; nothing is said of it at a stop
abbrev pub IsCounted : Pause → (place : ℕ) → Type 0
IsCounted (pauses.At op line) place = place + 1 < 2 ^ 64
IsCounted (pauses.Stopped stop line) place = Unit {0}

-- the machine is inside a function that wasn't called as a task, at an instruction
abbrev pub IsBefore : Code → Op → (line : ℕ) → State → Type 0
IsBefore code op line (Begin function arguments at) = ⊥
IsBefore code op line (At a callers place stack) =
    (f : Routine) × (slice_get code.functions a.function ≡ Some f) × HasInstr f place op line × (a.is_task ≡ false)

-- The units and the steps that are left don't rise: fewer units are left, or as many and no more steps.
abbrev pub IsNoHigher : (units' steps' units steps : ℕ) → Type 0
IsNoHigher units' steps' units steps = (units' < units) ⊎ ((units' ≡ units) × (steps' ≤ steps))

-- The machine goes on by itself over a space and with units, and the units and the steps that are left don't rise.
pub record Went {S : Type 0} (reply : S → Action → Reply) (learn : S → Action → S) (code : Code) (old : State) (space : S) (units : ℕ) (new : State) (space' : S) (units' : ℕ) : Type 0 where
  pub steps : ℕ
  pub goes : Along (metered reply) (spending learn) (with_units space units) (with_units space' units') (ComesOn code old steps new)
  pub falls : (plans : List (List Spot)) (left : ℕ) → IsSound code plans → IsAt code plans left old → (next : ℕ) × IsAt code plans next new × IsNoHigher units' next units left

-- what a run to an event reaches and leaves, with units
abbrev pub Comes : {S : Type 0} → (S → Action → Reply) → (S → Action → S) → (S → ℕ) → Code → State → S → ℕ → Event → State → S → ℕ → Type 0
Comes reply learn place code old space units e new space' units' =
    Reaches (metered reply) (spending learn) code old (with_units space units) e new (with_units space' units') × Leaves code old units e new units' (place space')

-- steps up to a pause
abbrev pub ComesToPause : {S : Type 0} → (S → Action → Reply) → (S → Action → S) → (S → ℕ) → Code → State → S → ℕ → Pause → State → S → Type 0
ComesToPause reply learn place code old space units (pauses.At op line) new space' =
    Went reply learn code old space units new space' units × IsStacked code (place space') new × (depth new ≡ depth old) × IsBefore code op line new × (is_pause op ≡ true)
ComesToPause reply learn place code old space units (pauses.Stopped stop line) new space' =
    Comes reply learn place code old space units (events.Stopped stop line) new space' units

-- a round of steps up to an entry, which takes a unit, a return to a caller, or an event
abbrev pub ComesRound : {S : Type 0} → (S → Action → Reply) → (S → Action → S) → (S → ℕ) → Code → State → S → ℕ → Round → State → S → ℕ → Type 0
ComesRound reply learn place code old space units rounds.Enters new space' units' =
    Went reply learn code old space units new space' units' × IsStacked code (place space') new × (units' < units)
ComesRound reply learn place code old space units rounds.Returns new space' units' =
    Went reply learn code old space units new space' units' × IsStacked code (place space') new × (units' ≡ units) × (depth new < depth old)
ComesRound reply learn place code old space units (rounds.Makes e) new space' units' = Comes reply learn place code old space units e new space' units'

-- rounds up to an entry, or to the event before it
abbrev pub ComesToEntry : {S : Type 0} → (S → Action → Reply) → (S → Action → S) → (S → ℕ) → Code → State → S → ℕ → Option Event → State → S → ℕ → Type 0
ComesToEntry reply learn place code old space units None new space' units' = ComesRound reply learn place code old space units rounds.Enters new space' units'
ComesToEntry reply learn place code old space units (Some e) new space' units' = Comes reply learn place code old space units e new space' units'
