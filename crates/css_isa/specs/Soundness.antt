-- Code that is never stuck, and goes on by itself for so many steps at most: each place to which a function comes has a stack height,
-- a mode, and a rank, which falls at each step but a turn and a call.
use Rattle.std.specs.Prelude.{◌≡◌, ℕ, zero, suc, ◌+◌, ◌-◌, ◌<◌, ◌≤◌, true, List, [], ◌∷◌, length, All, Contains, Option, Some, None, slice_get}
use Rattle.css_semantics.specs.Dialogue.{Mode, Plain}
use Rattle.css_semantics.specs.Memory.{first_global}
use Rattle.css_isa.specs.declared.code.ArgShape.{ArgShape}
use Rattle.css_isa.specs.declared.code.ArgShape.TheVariants as shapes
use Rattle.css_isa.specs.declared.code.Instr.{Instr}
use Rattle.css_isa.specs.declared.code.Op.{Op}
use Rattle.css_isa.specs.declared.code.Op.TheVariants as ops
use Rattle.css_isa.specs.Code.{Routine, Shape, Datum, Code, all_dimensions}
use Rattle.css_isa.specs.Roles.{Role, Straight, Turning, Outward, Telling, Awaiting, Changing, Testing, Jumping, Branching, Calling, Submitting, Returning, role_of}
use Rattle.css_isa.specs.Steps.{State, Begin, At, Caller}

-- the cells on the stack at a place, in which mode it asks and is at fault, and how many steps are left at most up to a turn, a call or
-- the end
pub record Spot : Type 0 where
  pub height : ℕ
  pub mode : Mode
  pub rank : ℕ

-- a spot for each place of a body to which it comes
abbrev pub Plan : Type 0
Plan = List (Option Spot)

abbrev pub spot_at : Plan → (place : ℕ) → Option Spot
spot_at [] place = None
spot_at (s ∷ plan) zero = s
spot_at (s ∷ plan) (suc place) = spot_at plan place

-- a place has this height and this mode
abbrev pub Stays : Plan → (place height : ℕ) → Mode → Type 0
Stays plan place height mode = (next : Spot) × (spot_at plan place ≡ Some next) × (next.height ≡ height) × (next.mode ≡ mode)

-- and a lower rank
abbrev pub Leads : Plan → (place : ℕ) → Spot → (height : ℕ) → Mode → Type 0
Leads plan place spot height mode =
    (next : Spot) × (spot_at plan place ≡ Some next) × (next.height ≡ height) × (next.mode ≡ mode) × (next.rank < spot.rank)

-- ---- the cells that an instruction takes, and those that it gives

-- how many arguments a function takes, and how many dimensions a call of it has
abbrev pub arguments_taken : Option Routine → ℕ
arguments_taken None = 0
arguments_taken (Some f) = length f.parameters

abbrev pub dimensions_of_task : Option Shape → ℕ
dimensions_of_task None = 0
dimensions_of_task (Some s) = all_dimensions s.arguments

abbrev pub dimensions_taken : Option Routine → ℕ
dimensions_taken None = 0
dimensions_taken (Some f) = dimensions_of_task f.task

module _ (code : Code) where
  -- how many cells have to be there
  abbrev pub cells_needed : Role → ℕ
  cells_needed (Straight needed taken given) = needed
  cells_needed Turning = 0
  cells_needed (Outward taken given) = taken
  cells_needed Telling = 0
  cells_needed Awaiting = 1
  cells_needed (Changing mode) = 0
  cells_needed Testing = 0
  cells_needed (Jumping to) = 0
  cells_needed (Branching to) = 1
  cells_needed (Calling k) = arguments_taken (slice_get code.functions k)
  cells_needed (Submitting k) = arguments_taken (slice_get code.functions k) + dimensions_taken (slice_get code.functions k)
  cells_needed Returning = 1

  abbrev pub needs : Op → ℕ
  needs op = cells_needed (role_of op)

  -- how many cells are there behind it, where so many were
  abbrev pub height_behind : Role → (height : ℕ) → ℕ
  height_behind (Straight needed taken given) height = height - taken + given
  height_behind Turning height = height
  height_behind (Outward taken given) height = height - taken + given
  height_behind Telling height = height
  height_behind Awaiting height = height - 1
  height_behind (Changing mode) height = height
  height_behind Testing height = height + 1
  height_behind (Jumping to) height = height
  height_behind (Branching to) height = height - 1
  height_behind (Calling k) height = height - arguments_taken (slice_get code.functions k) + 1
  height_behind (Submitting k) height = height - (arguments_taken (slice_get code.functions k) + dimensions_taken (slice_get code.functions k)) + 1
  height_behind Returning height = height - 1

  -- the functions that an instruction names are there, and are tasks where they have to be
  abbrev pub AreNamed : Role → Type 0
  AreNamed (Calling k) = (f : Routine) × (slice_get code.functions k ≡ Some f)
  AreNamed (Submitting k) = (f : Routine) × (s : Shape) × (slice_get code.functions k ≡ Some f) × (f.task ≡ Some s)
  AreNamed (Straight needed taken given) = Unit {0}
  AreNamed Turning = Unit {0}
  AreNamed (Outward taken given) = Unit {0}
  AreNamed Telling = Unit {0}
  AreNamed Awaiting = Unit {0}
  AreNamed (Changing mode) = Unit {0}
  AreNamed Testing = Unit {0}
  AreNamed (Jumping to) = Unit {0}
  AreNamed (Branching to) = Unit {0}
  AreNamed Returning = Unit {0}

  abbrev pub Names : Op → Type 0
  Names op = AreNamed (role_of op)

  -- what stands in no expression of a wait and in no dimension
  abbrev pub IsPlainAt : Role → Mode → Type 0
  IsPlainAt Telling mode = mode ≡ Plain
  IsPlainAt (Calling k) mode = mode ≡ Plain
  IsPlainAt Returning mode = mode ≡ Plain
  IsPlainAt (Straight needed taken given) mode = Unit {0}
  IsPlainAt Turning mode = Unit {0}
  IsPlainAt (Outward taken given) mode = Unit {0}
  IsPlainAt Awaiting mode = Unit {0}
  IsPlainAt (Changing other) mode = Unit {0}
  IsPlainAt Testing mode = Unit {0}
  IsPlainAt (Jumping to) mode = Unit {0}
  IsPlainAt (Branching to) mode = Unit {0}
  IsPlainAt (Submitting k) mode = Unit {0}

  -- an instruction's places to go have the height and the mode that it leaves
  abbrev pub LeadsOn : Plan → ℕ → Spot → Role → Type 0
  LeadsOn plan place spot (Straight needed taken given) = Leads plan (place + 1) spot (spot.height - taken + given) spot.mode
  LeadsOn plan place spot Turning = Stays plan (place + 1) spot.height spot.mode
  LeadsOn plan place spot (Outward taken given) = Leads plan (place + 1) spot (spot.height - taken + given) spot.mode
  LeadsOn plan place spot Telling = Leads plan (place + 1) spot spot.height spot.mode
  LeadsOn plan place spot Awaiting = Leads plan (place + 1) spot (spot.height - 1) spot.mode
  LeadsOn plan place spot (Changing mode) = Leads plan (place + 1) spot spot.height mode
  LeadsOn plan place spot Testing = Leads plan (place + 1) spot (spot.height + 1) spot.mode
  LeadsOn plan place spot (Jumping to) = Leads plan to spot spot.height spot.mode
  LeadsOn plan place spot (Branching to) = Leads plan to spot (spot.height - 1) spot.mode × Leads plan (place + 1) spot (spot.height - 1) spot.mode
  LeadsOn plan place spot (Calling k) = Stays plan (place + 1) (height_behind (Calling k) spot.height) spot.mode
  LeadsOn plan place spot (Submitting k) = Leads plan (place + 1) spot (height_behind (Submitting k) spot.height) spot.mode
  LeadsOn plan place spot Returning = Unit {0}

  abbrev pub GoesOn : Plan → ℕ → Spot → Op → Type 0
  GoesOn plan place spot op = LeadsOn plan place spot (role_of op)

  -- an instruction finds its cells and functions, stands in a mode in which it may, and leads on as the plan says
  pub record IsFine (plan : Plan) (place : ℕ) (spot : Spot) (op : Op) : Type 0 where
    pub finds : needs op ≤ spot.height
    pub names : Names op
    pub is_plain : IsPlainAt (role_of op) spot.mode
    pub goes_on : GoesOn plan place spot op

  -- a plan by which no step of a function takes a missing cell or leaves the body, and the rank falls at each step but a turn and
  -- a call
  pub record IsSoundBody (f : Routine) (plan : Plan) : Type 0 where
    pub first : (rank : ℕ) × (spot_at plan 0 ≡ Some (record { height = 0; mode = Plain; rank = rank }))
    pub each : (place : ℕ) (spot : Spot) → spot_at plan place ≡ Some spot →
        (i : Instr) × (slice_get f.body place ≡ Some i) × IsFine plan place spot i.op × (spot.rank ≤ length f.body)

  -- ---- tasks

  -- a shape has one part for each parameter, at most 32 in all; a window's parameter has 4 bytes, and its element one at least; a
  -- strided one has three dimensions
  abbrev pub IsPart : ArgShape → (width : ℕ) → Type 0
  IsPart shapes.Scalar width = Unit {0}
  IsPart (shapes.Window direction element dims strided) width = (width ≡ 4) × (1 ≤ element) × (strided ≡ true → dims ≡ 3)

  abbrev pub AreParts : List ArgShape → (parameters : List ℕ) → Type 0
  AreParts [] [] = Unit {0}
  AreParts [] (width ∷ parameters) = ⊥
  AreParts (s ∷ shapes) [] = ⊥
  AreParts (s ∷ shapes) (width ∷ parameters) = IsPart s width × AreParts shapes parameters

  abbrev pub IsShapeOf : Shape → Routine → Type 0
  IsShapeOf s f = (length f.parameters ≤ 32) × AreParts s.arguments f.parameters

  -- a function that a task reaches by calls, itself included
  pub data IsReached : ℕ → Type 0 where
    Itself : {k : ℕ} (f : Routine) (s : Shape) → slice_get code.functions k ≡ Some f → f.task ≡ Some s → IsReached k
    Called : {k : ℕ} (caller : ℕ) (f : Routine) (i : Instr) → IsReached caller → slice_get code.functions caller ≡ Some f
        → Contains f.body i → i.op ≡ ops.Call k → IsReached k

  -- an instruction that a task may have
  abbrev pub MakesNoEvent : Role → Type 0
  MakesNoEvent (Straight needed taken given) = Unit {0}
  MakesNoEvent Turning = Unit {0}
  MakesNoEvent (Outward taken given) = ⊥
  MakesNoEvent Telling = ⊥
  MakesNoEvent Awaiting = ⊥
  MakesNoEvent (Changing mode) = ⊥
  MakesNoEvent Testing = ⊥
  MakesNoEvent (Jumping to) = Unit {0}
  MakesNoEvent (Branching to) = Unit {0}
  MakesNoEvent (Calling k) = Unit {0}
  MakesNoEvent (Submitting k) = ⊥
  MakesNoEvent Returning = Unit {0}

  abbrev pub IsQuiet : Op → Type 0
  IsQuiet op = MakesNoEvent (role_of op)

  -- ---- the code

  -- bytes of globals, one at least
  pub record IsWithin (d : Datum) : Type 0 where
    pub some : 1 ≤ length d.bytes
    pub begins : first_global ≤ d.address
    pub ends : d.address + length d.bytes ≤ code.globals_end

  -- Plans by which all functions are sound; main has no parameters, what tasks reach makes no events, and the first bytes are those of
  -- globals.
  pub record IsSound (plans : List Plan) : Type 0 where
    pub each : (k : ℕ) (f : Routine) → slice_get code.functions k ≡ Some f →
        (plan : Plan) × (slice_get plans k ≡ Some plan) × IsSoundBody f plan
    pub main : (f : Routine) × (slice_get code.functions code.main ≡ Some f) × (f.parameters ≡ [])
    pub shapes : (k : ℕ) (f : Routine) (s : Shape) → slice_get code.functions k ≡ Some f → f.task ≡ Some s → IsShapeOf s f
    pub quiet : (k : ℕ) (f : Routine) → IsReached k → slice_get code.functions k ≡ Some f → All (λ i. IsQuiet i.op) f.body
    pub globals : first_global ≤ code.globals_end
    pub datums : All IsWithin code.datums

  -- ---- states

  -- a function's place has this height, this mode and this rank by the plans
  abbrev pub IsSpot : List Plan → (function place height : ℕ) → Mode → (rank : ℕ) → Type 0
  IsSpot plans function place height mode rank =
      (f : Routine) × (plan : Plan) × (slice_get code.functions function ≡ Some f) × (slice_get plans function ≡ Some plan)
      × (spot_at plan place ≡ Some (record { height = height; mode = mode; rank = rank }))

  -- the callers are at places of the plans, where each waits for a cell; the steps that they have left, and one more for each
  abbrev pub AreCallers : List Plan → ℕ → List Caller → Type 0
  AreCallers plans steps [] = steps ≡ 0
  AreCallers plans steps (c ∷ callers) =
      (rank : ℕ) × (others : ℕ) × IsSpot plans c.activation.function c.place (suc (length c.stack)) c.activation.mode rank
      × AreCallers plans others callers × (steps ≡ suc (rank + others))

  -- The state is before the entry of a function with its arguments, or inside, at a place with the height and the mode, and has so many
  -- steps left up to a turn, a call or the end.
  abbrev pub IsAt : List Plan → ℕ → State → Type 0
  IsAt plans steps (Begin k arguments line) =
      (steps ≡ 0) × ((f : Routine) × (slice_get code.functions k ≡ Some f) × (length arguments ≡ length f.parameters))
  IsAt plans steps (At a callers place stack) =
      (rank : ℕ) × (others : ℕ) × IsSpot plans a.function place (length stack) a.mode rank × AreCallers plans others callers × (steps ≡ rank + others)

  -- the code is sound, and the state is at places of its plans
  abbrev pub Fits : State → Type 0
  Fits s = (plans : List Plan) × IsSound plans × ((steps : ℕ) × IsAt plans steps s)
