-- A task's run on a yard that has no other.
use Rattle.std.specs.Prelude.{◌≡◌, ◌⊎◌, true, ℕ, List, [], ◌∷◌, Some, slice_get}
use Rattle.css_base.specs.declared.limits.Limits.{Limits}
use Rattle.css_record.specs.declared.task_record.TaskRecord.{TaskRecord}
use Rattle.css_record.specs.declared.version.VersionName.TheVariants as names
use Rattle.css_semantics.specs.Tasks.{Use}
use Rattle.css_task.specs.Alone.{Outs, Halted, IsAlone}
use Rattle.css_vm.specs.Code.{Code}
use Rattle.css_yard.specs.declared.answer.YardAnswer.{YardAnswer}
use Rattle.css_yard.specs.declared.answer.YardAnswer.TheVariants as answers
use Rattle.css_yard.specs.Yards.{State, Open, Closed, MaySubmit, IsMade, with_record}

-- the yard takes calls and has no task that isn't settled
pub record IsQuiet (state : State) : Type 0 where
  pub takes_calls : state.phase ≡ Open
  pub settled : state.submits ≡ []

-- The record's one input is given, and it makes something.
pub record MayRun (code : Code) (limits : Limits) (r : TaskRecord) (bytes : List ℕ) : Type 0 where
  pub may : MaySubmit code limits [] r (bytes ∷ [])
  pub inputs : r.inputs.items ≡ names.Given 0 ∷ []
  pub made : (u : Use) × IsMade code (record { rec = r; given = bytes ∷ [] } ∷ []) r.number 0 u

-- The task by itself makes this first.
pub record ComesAlone (code : Code) (r : TaskRecord) (bytes : List ℕ) (units : ℕ) (value : List ℕ) : Type 0 where
  pub outs : List (List ℕ)
  pub alone : IsAlone code r (bytes ∷ []) units (Outs outs)
  pub out : slice_get outs 0 ≡ Some value

-- The task by itself stops, or there was no memory.
abbrev pub StopsAlone : Code → TaskRecord → (bytes : List ℕ) → (units : ℕ) → YardAnswer → Type 0
StopsAlone code r bytes units (answers.Stopped task stop line) = (task ≡ r.number) × IsAlone code r (bytes ∷ []) units (Halted stop line)
StopsAlone code r bytes units answers.NoMemory = Unit {0}

-- A yard that refused the record's task has no task that isn't settled, or takes nothing any more; the record is its last part, or none.
pub record HasRefused (old : State) (r : TaskRecord) (new : State) : Type 0 where
  pub settled : (new.phase ≡ Closed) ⊎ (new.submits ≡ [])
  pub parts : (new.parts ≡ old.parts) ⊎ (new.parts ≡ with_record old.parts true r)
