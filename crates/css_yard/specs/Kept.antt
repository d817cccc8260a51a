-- What the yard keeps that runs each task when it is submitted.
use Rattle.std.specs.Prelude.{◌≡◌, ◌<◌, ◌-◌, ℕ, List, [], ◌∷◌, map, Option, Some, None, slice_get}
use Rattle.css_base.specs.declared.limits.Limits.{Limits}
use Rattle.css_base.specs.declared.ending.Stop.{Stop}
use Rattle.css_record.specs.declared.task_record.TaskRecord.{TaskRecord}
use Rattle.css_record.specs.declared.version.VersionName.{VersionName}
use Rattle.css_record.specs.declared.version.VersionName.TheVariants as names
use Rattle.css_vm.specs.Code.{Code}
use Rattle.css_task.specs.Alone.{IsAlone, end_of}
use Rattle.css_task.specs.declared.shared.SharedEnd.{SharedEnd}
use Rattle.css_task.specs.declared.shared.SharedEnd.TheVariants as ends
use Rattle.css_yard.specs.declared.done.Done.{Done}
use Rattle.css_yard.specs.declared.done.Halt.{Halt}
use Rattle.css_yard.specs.Values.{Submit, Ends, AreValues}
use Rattle.css_yard.specs.Yards.{Stopping}
use Rattle.css_yard.specs.Submits.{AreSubmitted}

-- ---- what was submitted

abbrev pub submit_of : Done → Submit
submit_of d = record { rec = d.rec.value; given = d.given.value.items }

abbrev pub submits_of : List Done → List Submit
submits_of tasks = map submit_of tasks

-- the number of the first task
abbrev pub first_number : List Done → ℕ
first_number [] = 0
first_number (d ∷ tasks) = d.number

-- ---- values

abbrev pub out_of : Option SharedEnd → (out : ℕ) → Option (List ℕ)
out_of (Some (ends.Outs outs)) out = slice_get outs.items out
out_of (Some (ends.Stopped stop line)) out = None
out_of None out = None

abbrev pub out_at : Option Done → (out : ℕ) → Option (List ℕ)
out_at None out = None
out_at (Some d) out = out_of d.end out

-- the value of a version, where it is there
abbrev pub value_at : List Done → (given : List (List ℕ)) → VersionName → Option (List ℕ)
value_at tasks given (names.Given place) = slice_get given place
value_at tasks given (names.Made task out) = out_at (slice_get tasks (task - first_number tasks)) out

abbrev pub with_value : Option (List ℕ) → Option (List (List ℕ)) → Option (List (List ℕ))
with_value (Some value) (Some values) = Some (value ∷ values)
with_value (Some value) None = None
with_value None values = None

-- the values of versions, where all are there
abbrev pub values_at : List Done → (given : List (List ℕ)) → List VersionName → Option (List (List ℕ))
values_at tasks given [] = Some []
values_at tasks given (version ∷ versions) = with_value (value_at tasks given version) (values_at tasks given versions)

-- ---- the first stop

abbrev pub stopping : Halt → Stopping
stopping h = record { task = h.task; stop = h.stop; line = h.line }

-- where a task stopped, else what is said of those behind it
abbrev pub stop_or : (number : ℕ) → Option SharedEnd → Option Stopping → Option Stopping
stop_or number (Some (ends.Stopped stop line)) others = Some (record { task = number; stop = stop; line = line })
stop_or number (Some (ends.Outs outs)) others = others
stop_or number None others = others

abbrev pub first_stop : List Done → Option Stopping
first_stop [] = None
first_stop (d ∷ tasks) = stop_or d.number d.end (first_stop tasks)

-- ---- what holds of them

-- a task that stopped
abbrev pub HasStopped : Done → Type 0
HasStopped d = (stop : Stop) × (line : ℕ) × (d.end ≡ Some (ends.Stopped stop line))

-- a task among them that stopped
abbrev pub AnyStopped : List Done → Type 0
AnyStopped tasks = (k : ℕ) × (d : Done) × (slice_get tasks k ≡ Some d) × HasStopped d

-- What a task comes to that is submitted behind these: its end alone over the values of its inputs, or none, because one of them
-- stopped.
abbrev pub CameTo : Code → (units : ℕ) → List Done → TaskRecord → (given : List (List ℕ)) → Option SharedEnd → Type 0
CameTo code units tasks r given (Some end) =
    (inputs : List (List ℕ)) × AreValues code units (submits_of tasks) given r.inputs.items inputs × IsAlone code r inputs units (end_of end)
CameTo code units tasks r given None = AnyStopped tasks

-- Tasks of a generation, in order: each came to its end, or wasn't run because one before it stopped.
pub record AreDone (code : Code) (limits : Limits) (tasks : List Done) : Type 0 where
  pub submitted : AreSubmitted code limits (submits_of tasks)
  pub numbers : (k : ℕ) (d : Done) → slice_get tasks k ≡ Some d → d.number ≡ d.rec.value.number
  pub ends : (k : ℕ) (d : Done) (end : SharedEnd) → slice_get tasks k ≡ Some d → d.end ≡ Some end
      → Ends code limits.task_units (submits_of tasks) d.number (end_of end)
  pub held : (k : ℕ) (d : Done) → slice_get tasks k ≡ Some d → d.end ≡ None
      → (j : ℕ) × (other : Done) × (j < k) × (slice_get tasks j ≡ Some other) × HasStopped other
