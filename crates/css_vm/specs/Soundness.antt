-- Code that is never stuck, and goes on by itself for so many steps at most: each place of each function has a stack height and a
-- rank, which falls at each step but a turn and a call.
use Rattle.std.specs.Prelude.{◌≡◌, ℕ, suc, ◌+◌, ◌-◌, ◌<◌, ◌≤◌, true, List, [], ◌∷◌, length, All, Contains, Option, Some, None, slice_get}
use Rattle.css_vm.specs.declared.code.ArgShape.{ArgShape}
use Rattle.css_vm.specs.declared.code.ArgShape.TheVariants as shapes
use Rattle.css_vm.specs.declared.code.Instr.{Instr}
use Rattle.css_vm.specs.declared.code.Op.{Op}
use Rattle.css_vm.specs.declared.code.Op.TheVariants as ops
use Rattle.css_vm.specs.declared.code.MarkKind.{MarkKind}
use Rattle.css_vm.specs.declared.code.MarkKind.TheVariants as marks
use Rattle.css_vm.specs.Code.{Routine, Shape, Code, all_dimensions}
use Rattle.css_vm.specs.Roles.{Role, Pushing, Computing, Dividing, Accessing, Jumping, Branching, Calling, Submitting, Marking, Turning, Writing, Returning, role_of}
use Rattle.css_vm.specs.Machine.{State, Begin, At, Caller}

-- the cells on the stack at a place, and how many steps are left at most up to a turn, a call or the end
pub record Spot : Type 0 where
  pub height : ℕ
  pub rank : ℕ

-- a place has this height
abbrev pub Stays : List Spot → ℕ → ℕ → Type 0
Stays plan place height = (next : Spot) × (slice_get plan place ≡ Some next) × (next.height ≡ height)

-- a place has this height, and a lower rank
abbrev pub Leads : List Spot → ℕ → Spot → ℕ → Type 0
Leads plan place spot height = (next : Spot) × (slice_get plan place ≡ Some next) × (next.height ≡ height) × (next.rank < spot.rank)

-- ---- the cells that an instruction takes, and those that it gives

-- how many arguments a function takes, and how many dimensions a call of it has
abbrev pub arguments_taken : Option Routine → ℕ
arguments_taken None = 0
arguments_taken (Some f) = length f.parameters

abbrev pub dimensions_of_task : Option Shape → ℕ
dimensions_of_task None = 0
dimensions_of_task (Some s) = all_dimensions s.arguments

abbrev pub dimensions_taken : Option Routine → ℕ
dimensions_taken None = 0
dimensions_taken (Some f) = dimensions_of_task f.task

module _ (code : Code) where
  abbrev pub cells_taken : Role → ℕ
  cells_taken (Pushing below) = 0
  cells_taken (Computing taken given) = taken
  cells_taken Dividing = 2
  cells_taken (Accessing taken) = taken
  cells_taken (Jumping to) = 0
  cells_taken (Branching to) = 1
  cells_taken (Calling k) = arguments_taken (slice_get code.functions k)
  cells_taken (Submitting k) = arguments_taken (slice_get code.functions k) + dimensions_taken (slice_get code.functions k)
  cells_taken (Marking kind) = 0
  cells_taken Turning = 0
  cells_taken Writing = 1
  cells_taken Returning = 1

  abbrev pub takes : Op → ℕ
  takes op = cells_taken (role_of op)

  abbrev pub given_at : MarkKind → ℕ
  given_at marks.Start = 0
  given_at marks.Finish = 0
  given_at marks.Barrier = 0
  given_at marks.Started = 1

  abbrev pub cells_given : Role → ℕ
  cells_given (Pushing below) = 1
  cells_given (Computing taken given) = given
  cells_given Dividing = 1
  cells_given (Accessing taken) = 1
  cells_given (Jumping to) = 0
  cells_given (Branching to) = 0
  cells_given (Calling k) = 1
  cells_given (Submitting k) = 1
  cells_given (Marking kind) = given_at kind
  cells_given Turning = 0
  cells_given Writing = 1
  cells_given Returning = 0

  abbrev pub gives : Op → ℕ
  gives op = cells_given (role_of op)

  -- what pushes takes none, but those that it asks for have to be there
  abbrev pub cells_needed : Role → ℕ
  cells_needed (Pushing below) = below
  cells_needed (Computing taken given) = taken
  cells_needed Dividing = 2
  cells_needed (Accessing taken) = taken
  cells_needed (Jumping to) = 0
  cells_needed (Branching to) = 1
  cells_needed (Calling k) = arguments_taken (slice_get code.functions k)
  cells_needed (Submitting k) = arguments_taken (slice_get code.functions k) + dimensions_taken (slice_get code.functions k)
  cells_needed (Marking kind) = 0
  cells_needed Turning = 0
  cells_needed Writing = 1
  cells_needed Returning = 1

  abbrev pub needs : Op → ℕ
  needs op = cells_needed (role_of op)

  -- the functions that an instruction names are there, and are tasks where they have to be
  abbrev pub AreNamed : Role → Type 0
  AreNamed (Pushing below) = Unit {0}
  AreNamed (Computing taken given) = Unit {0}
  AreNamed Dividing = Unit {0}
  AreNamed (Accessing taken) = Unit {0}
  AreNamed (Jumping to) = Unit {0}
  AreNamed (Branching to) = Unit {0}
  AreNamed (Calling k) = (f : Routine) × (slice_get code.functions k ≡ Some f)
  AreNamed (Submitting k) = (f : Routine) × (s : Shape) × (slice_get code.functions k ≡ Some f) × (f.task ≡ Some s)
  AreNamed (Marking kind) = Unit {0}
  AreNamed Turning = Unit {0}
  AreNamed Writing = Unit {0}
  AreNamed Returning = Unit {0}

  abbrev pub Names : Op → Type 0
  Names op = AreNamed (role_of op)

  -- an instruction's places to go have the height that it leaves
  abbrev pub LeadsOn : List Spot → ℕ → Spot → Role → Type 0
  LeadsOn plan place spot (Pushing below) = Leads plan (place + 1) spot (spot.height - 0 + 1)
  LeadsOn plan place spot (Computing taken given) = Leads plan (place + 1) spot (spot.height - taken + given)
  LeadsOn plan place spot Dividing = Leads plan (place + 1) spot (spot.height - 2 + 1)
  LeadsOn plan place spot (Accessing taken) = Leads plan (place + 1) spot (spot.height - taken + 1)
  LeadsOn plan place spot (Jumping to) = Leads plan to spot spot.height
  LeadsOn plan place spot (Branching to) = Leads plan to spot (spot.height - 1) × Leads plan (place + 1) spot (spot.height - 1)
  LeadsOn plan place spot (Calling k) = Stays plan (place + 1) (spot.height - arguments_taken (slice_get code.functions k) + 1)
  LeadsOn plan place spot (Submitting k) = Leads plan (place + 1) spot (spot.height - (arguments_taken (slice_get code.functions k) + dimensions_taken (slice_get code.functions k)) + 1)
  LeadsOn plan place spot (Marking kind) = Leads plan (place + 1) spot (spot.height - 0 + given_at kind)
  LeadsOn plan place spot Turning = Stays plan (place + 1) spot.height
  LeadsOn plan place spot Writing = Leads plan (place + 1) spot (spot.height - 1 + 1)
  LeadsOn plan place spot Returning = Unit {0}

  abbrev pub GoesOn : List Spot → ℕ → Spot → Op → Type 0
  GoesOn plan place spot op = LeadsOn plan place spot (role_of op)

  -- an instruction finds its cells and functions, and leads on as the plan says
  pub record IsFine (plan : List Spot) (place : ℕ) (spot : Spot) (op : Op) : Type 0 where
    pub finds : needs op ≤ spot.height
    pub names : Names op
    pub goes_on : GoesOn plan place spot op

  -- a plan by which no step of a function takes a missing cell or leaves the body, and the rank falls at each step but a turn and
  -- a call
  pub record IsSoundBody (f : Routine) (plan : List Spot) : Type 0 where
    pub first : (rank : ℕ) × (slice_get plan 0 ≡ Some (record { height = 0; rank = rank }))
    pub each : (place : ℕ) (spot : Spot) → slice_get plan place ≡ Some spot →
        (i : Instr) × (slice_get f.body place ≡ Some i) × IsFine plan place spot i.op × (spot.rank ≤ length f.body)

  -- ---- tasks

  -- a shape has one part for each parameter, at most 32 in all; a window's parameter has 4 bytes, and its element one at least
  abbrev pub IsPart : ArgShape → (width : ℕ) → Type 0
  IsPart shapes.Scalar width = Unit {0}
  IsPart (shapes.Window direction element dims strided) width = (width ≡ 4) × (1 ≤ element) × (strided ≡ true → dims ≡ 3)

  abbrev pub AreParts : List ArgShape → (parameters : List ℕ) → Type 0
  AreParts [] [] = Unit {0}
  AreParts [] (width ∷ parameters) = ⊥
  AreParts (s ∷ shapes) [] = ⊥
  AreParts (s ∷ shapes) (width ∷ parameters) = IsPart s width × AreParts shapes parameters

  abbrev pub IsShapeOf : Shape → Routine → Type 0
  IsShapeOf s f = (length f.parameters ≤ 32) × AreParts s.arguments f.parameters

  -- a function that a task reaches by calls, itself included
  pub data IsReached : ℕ → Type 0 where
    Itself : {k : ℕ} (f : Routine) (s : Shape) → slice_get code.functions k ≡ Some f → f.task ≡ Some s → IsReached k
    Called : {k : ℕ} (caller : ℕ) (f : Routine) (i : Instr) → IsReached caller → slice_get code.functions caller ≡ Some f
        → Contains f.body i → i.op ≡ ops.Call k → IsReached k

  -- an instruction that a task may have
  abbrev pub MakesNoEvent : Role → Type 0
  MakesNoEvent (Pushing below) = Unit {0}
  MakesNoEvent (Computing taken given) = Unit {0}
  MakesNoEvent Dividing = Unit {0}
  MakesNoEvent (Accessing taken) = Unit {0}
  MakesNoEvent (Jumping to) = Unit {0}
  MakesNoEvent (Branching to) = Unit {0}
  MakesNoEvent (Calling k) = Unit {0}
  MakesNoEvent (Submitting k) = ⊥
  MakesNoEvent (Marking kind) = ⊥
  MakesNoEvent Turning = Unit {0}
  MakesNoEvent Writing = ⊥
  MakesNoEvent Returning = Unit {0}

  abbrev pub IsQuiet : Op → Type 0
  IsQuiet op = MakesNoEvent (role_of op)

  -- ---- the code

  -- plans by which all functions are sound; main has no parameters, and what tasks reach makes no events
  pub record IsSound (plans : List (List Spot)) : Type 0 where
    pub each : (k : ℕ) (f : Routine) → slice_get code.functions k ≡ Some f →
        (plan : List Spot) × (slice_get plans k ≡ Some plan) × IsSoundBody f plan
    pub main : (f : Routine) × (slice_get code.functions code.main ≡ Some f) × (f.parameters ≡ [])
    pub shapes : (k : ℕ) (f : Routine) (s : Shape) → slice_get code.functions k ≡ Some f → f.task ≡ Some s → IsShapeOf s f
    pub quiet : (k : ℕ) (f : Routine) → IsReached k → slice_get code.functions k ≡ Some f → All (λ i. IsQuiet i.op) f.body

  -- ---- states

  -- a function's place has this height and this rank by the plans
  abbrev pub IsSpot : List (List Spot) → (function place height rank : ℕ) → Type 0
  IsSpot plans function place height rank =
      (f : Routine) × (plan : List Spot) × (slice_get code.functions function ≡ Some f) × (slice_get plans function ≡ Some plan)
      × (slice_get plan place ≡ Some (record { height = height; rank = rank }))

  -- the callers are at places of the plans, where each waits for a cell; the steps that they have left, and one more for each
  abbrev pub AreCallers : List (List Spot) → ℕ → List Caller → Type 0
  AreCallers plans steps [] = steps ≡ 0
  AreCallers plans steps (c ∷ callers) =
      (rank : ℕ) × (others : ℕ) × IsSpot plans c.activation.function c.place (suc (length c.stack)) rank
      × AreCallers plans others callers × (steps ≡ suc (rank + others))

  -- The state is before the entry of a function with its arguments, or inside, at a place with the height, and has so many steps
  -- left up to a turn, a call or the end.
  abbrev pub IsAt : List (List Spot) → ℕ → State → Type 0
  IsAt plans steps (Begin k arguments line) =
      (steps ≡ 0) × ((f : Routine) × (slice_get code.functions k ≡ Some f) × (length arguments ≡ length f.parameters))
  IsAt plans steps (At a callers place stack) =
      (rank : ℕ) × (others : ℕ) × IsSpot plans a.function place (length stack) rank × AreCallers plans others callers × (steps ≡ rank + others)

  -- the code is sound, and the state is at places of its plans
  abbrev pub Fits : State → Type 0
  Fits s = (plans : List (List Spot)) × IsSound plans × ((steps : ℕ) × IsAt plans steps s)
