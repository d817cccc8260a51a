-- What a yard is in contracts.
use Rattle.std.specs.Prelude.{◌≡◌, ◌<◌, ◌≤◌, ◌+◌, ℕ, Bool, true, false, List, [], ◌∷◌, ◌++◌, length, map, filter, Contains, Option, Some, None, slice_get}
use Rattle.css_base.specs.declared.limits.Limits.{Limits}
use Rattle.css_base.specs.declared.ending.Stop.{Stop}
use Rattle.css_record.specs.declared.task_record.TaskRecord.{TaskRecord}
use Rattle.css_record.specs.declared.version.VersionName.{VersionName}
use Rattle.css_record.specs.declared.version.VersionName.TheVariants as names
use Rattle.css_record.specs.Records.{FitsCode, uses}
use Rattle.css_record.specs.Windows.{window}
use Rattle.css_semantics.specs.Rules.{room_of}
use Rattle.css_semantics.specs.Tasks.{Use, window_length, reads, writes}
use Rattle.css_vm.specs.Code.{Routine, Shape, Code}
use Rattle.css_task.specs.Alone.{TaskOf, Halted}
use Rattle.css_yard.specs.declared.answer.YardAnswer.{YardAnswer}
use Rattle.css_yard.specs.declared.answer.YardAnswer.TheVariants as answers
use Rattle.css_yard.specs.Values.{Submit, Ends, IsFirstStop}

-- What a yard has come to: it takes calls; a call was refused and it takes one settle alone; behind that, or behind a settle that was
-- refused, it takes nothing.
pub data Phase : Type 0 where
  Open : Phase
  Refused : Phase
  Closed : Phase

-- The first task that stops, as a settle or a fetch answers it.
pub record Stopping : Type 0 where
  pub task : ℕ
  pub stop : Stop
  pub line : ℕ

-- A yard: what was submitted since the last settle, the records of all submits, parted by settles, how far it has come, whether it
-- has had a call, whether a call wanted memory, and what a settle answered where it stopped.
pub record State : Type 0 where
  pub submits : List Submit
  pub parts : List (List TaskRecord)
  pub phase : Phase
  pub is_used : Bool
  pub is_starved : Bool
  pub stopped : Option Stopping

-- before the first call
abbrev pub fresh : State
fresh = record { submits = []; parts = []; phase = Open; is_used = false; is_starved = false; stopped = None }

-- ---- conditions

-- how many of the windows are written
abbrev pub written : List Use → List Use
written us = filter (λ u. writes u.direction) us

-- A version is one that a submitted task makes: a writing parameter of it, whose window this is.
pub record IsMade (code : Code) (submits : List Submit) (task out : ℕ) (u : Use) : Type 0 where
  pub submit : Submit
  pub is_there : Contains submits submit
  pub number : submit.rec.number ≡ task
  pub routine : Routine
  pub shape : Shape
  pub task_of : TaskOf code submit.rec routine shape
  pub parameter : slice_get (written (uses shape submit.rec)) out ≡ Some u

-- The version can be fetched.
abbrev pub CanFetch : Code → List Submit → VersionName → Type 0
CanFetch code submits (names.Given place) = ⊥
CanFetch code submits (names.Made task out) = (u : Use) × IsMade code submits task out u

-- A given list and versions fit a window that is read: the named buffer or version is as long.
abbrev pub FitsInput : Code → List Submit → (given : List (List ℕ)) → VersionName → Use → Type 0
FitsInput code submits given (names.Given place) u = (bytes : List ℕ) × (slice_get given place ≡ Some bytes) × (length bytes ≡ window_length u.window)
FitsInput code submits given (names.Made task out) u =
    (v : Use) × IsMade code submits task out v × (window_length v.window ≡ window_length u.window)

-- Two inputs for equal windows: one version of a task, or given buffers of equal bytes.
abbrev pub AgreeAsInputs : (given : List (List ℕ)) → VersionName → VersionName → Type 0
AgreeAsInputs given (names.Given i) (names.Given j) = slice_get given i ≡ slice_get given j
AgreeAsInputs given a b = a ≡ b

-- Two inputs for different windows: not one version of a task.
abbrev pub DifferAsInputs : VersionName → VersionName → Type 0
DifferAsInputs (names.Made task out) (names.Made task' out') = (task ≡ task') × (out ≡ out') → ⊥
DifferAsInputs a b = Unit {0}

-- two reading parameters of a record's task, with their inputs
pub record AreInputs (r : TaskRecord) (reading : List Use) (a b : VersionName) (u v : Use) : Type 0 where
  pub j : ℕ
  pub k : ℕ
  pub first : slice_get r.inputs.items j ≡ Some a
  pub second : slice_get r.inputs.items k ≡ Some b
  pub of_first : slice_get reading j ≡ Some u
  pub of_second : slice_get reading k ≡ Some v

-- the windows that are read
abbrev pub reading : List Use → List Use
reading us = filter (λ u. reads u.direction) us

-- A record may be submitted: it is one of the code, its windows have room in the local store, it has the next number, and its inputs
-- are there and fit.
pub record MaySubmit (code : Code) (limits : Limits) (submits : List Submit) (r : TaskRecord) (given : List (List ℕ)) : Type 0 where
  pub fits : FitsCode code r
  pub room : room_of (map window r.windows.items) ≤ limits.local_store
  pub few : length submits < 4096
  pub next : (last : Submit) (before : List Submit) → submits ≡ before ++ last ∷ [] → r.number ≡ last.rec.number + 1
  pub inputs : (shape : Shape) (routine : Routine) → TaskOf code r routine shape → (place : ℕ) (version : VersionName) (u : Use)
      → slice_get r.inputs.items place ≡ Some version → slice_get (reading (uses shape r)) place ≡ Some u
      → FitsInput code submits given version u
  pub equal : (shape : Shape) (routine : Routine) → TaskOf code r routine shape → (a b : VersionName) (u v : Use)
      → AreInputs r (reading (uses shape r)) a b u v → u.window ≡ v.window → AgreeAsInputs given a b
  pub different : (shape : Shape) (routine : Routine) → TaskOf code r routine shape → (a b : VersionName) (u v : Use)
      → AreInputs r (reading (uses shape r)) a b u v → ¬ (u.window ≡ v.window) → DifferAsInputs a b

-- ---- what calls leave

-- a submit stands behind the others, and its record in the last part
abbrev pub with_record : List (List TaskRecord) → Bool → TaskRecord → List (List TaskRecord)
with_record [] is_first r = (r ∷ []) ∷ []
with_record (part ∷ []) true r = part ∷ (r ∷ []) ∷ []
with_record (part ∷ []) false r = (part ++ r ∷ []) ∷ []
with_record (part ∷ parts) is_first r = part ∷ with_record parts is_first r

abbrev pub is_empty : List Submit → Bool
is_empty [] = true
is_empty (s ∷ submits) = false

abbrev pub Submitted : State → TaskRecord → (given : List (List ℕ)) → State → Type 0
Submitted old r given new = new ≡ record old {
  submits = old.submits ++ record { rec = r; given = given } ∷ [];
  parts = with_record old.parts (is_empty old.submits) r;
  is_used = true;
}

-- behind a settle that gives its answer, a yard of which no call was refused takes calls, and any other takes nothing
abbrev pub phase_behind : Phase → Phase
phase_behind Open = Open
phase_behind Refused = Closed
phase_behind Closed = Closed

abbrev pub Settled : State → State → Type 0
Settled old new = new ≡ record old { submits = []; phase = phase_behind old.phase; is_used = true }

-- a settle is taken by a yard that takes calls, and by one of which a call was refused
abbrev pub TakesSettle : Phase → Type 0
TakesSettle Open = Unit {0}
TakesSettle Refused = Unit {0}
TakesSettle Closed = ⊥

-- no task of the generation stops
abbrev pub NoneStops : Code → (units : ℕ) → List Submit → Type 0
NoneStops code units submits = (number : ℕ) (stop : Stop) (line : ℕ) → ¬ Ends code units submits number (Halted stop line)

-- A call that isn't a settle is refused: it names the first stop, or there was no memory. The generation is as it was.
abbrev pub IfRefused : Code → (units : ℕ) → State → State → YardAnswer → Type 0
IfRefused code units old new (answers.Stopped task stop line) =
    IsFirstStop code units old.submits task stop line × (new ≡ record old { phase = Refused; is_used = true })
IfRefused code units old new answers.NoMemory = new ≡ record old { phase = Refused; is_used = true; is_starved = true }

-- The same for a settle, behind which nothing is taken.
abbrev pub IfNotSettled : Code → (units : ℕ) → State → State → YardAnswer → Type 0
IfNotSettled code units old new (answers.Stopped task stop line) =
    IsFirstStop code units old.submits task stop line
    × (new ≡ record old { phase = Closed; is_used = true; stopped = Some (record { task = task; stop = stop; line = line }) })
IfNotSettled code units old new answers.NoMemory = new ≡ record old { phase = Closed; is_used = true; is_starved = true }
