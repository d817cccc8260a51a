-- A call of a plain task, and what it leaves.
use Rattle.std.specs.Prelude.{◌≡◌, ◌<◌, ◌^◌, ◌+◌, ℕ, List, [], ◌∷◌, map, Some, None, slice_get}
use Rattle.css_base.specs.declared.limits.Limits.{Limits}
use Rattle.css_base.specs.declared.ending.Ending.TheVariants as endings
use Rattle.css_base.specs.declared.ending.Stop.{Stop}
use Rattle.css_base.specs.declared.ending.Stop.TheVariants as stops
use Rattle.css_base.specs.declared.ending.Who.TheVariants as whose
use Rattle.css_base.specs.declared.rule.Rule.{Rule}
use Rattle.css_io.specs.Changes.{Change}
use Rattle.css_in_place.specs.InPlace.{IsWithin}
use Rattle.css_judged.specs.Judged.{Judged, broken_by_call, plain_argument, main_place}
use Rattle.css_record.specs.declared.task_record.TaskRecord.{TaskRecord}
use Rattle.css_record.specs.declared.version.VersionName.TheVariants.{Given}
use Rattle.css_record.specs.Windows.{window}
use Rattle.css_semantics.specs.Pending.{with_argument}
use Rattle.css_semantics.specs.WithWindow.{with_window}
use Rattle.css_semantics.specs.Tasks.{plain}
use Rattle.css_semantics.specs.Units.{with_units}
use Rattle.css_semantics.specs.Verdict.{bytes_of_window}
use Rattle.css_task.specs.Alone.{End, Outs, Halted, IsAlone}
use Rattle.css_vm.specs.declared.machine.Submitted.{Submitted}
use Rattle.css_vm.specs.Code.{Routine, Shape, Code}
use Rattle.css_vm.specs.Events.{base_of}
use Rattle.css_yard.specs.declared.answer.YardAnswer.{YardAnswer}
use Rattle.css_yard.specs.declared.answer.YardAnswer.TheVariants as answers
use Rattle.css_main_side.specs.Events.{with_answer}
use Rattle.css_main_side.specs.Playing.{Side}
use Rattle.css_main_side.specs.Ran.{RanAs, Fails}
use Rattle.css_main_side.specs.declared.ran.Ran.{Ran}

-- The call's one argument points to this address.
pub record PointsTo (s : Submitted) (base : ℕ) : Type 0 where
  pub argument : s.arguments.items ≡ base ∷ []
  pub fits : base < 2 ^ 32

-- The call breaks no rule; its machine's frame is at main's stack place, and the stack is within its limits.
pub record IsAllowed (limits : Limits) (side : Side) (base : ℕ) : Type 0 where
  pub none : broken_by_call limits side.space.state (plain_argument base ∷ []) ≡ None
  pub place : base_of side.machine ≡ main_place side.space.state
  pub within : IsWithin side.space.state.memory

-- The record of the call: its number is how many tasks were called before, its window the argument's four bytes, and its input the
-- one that is given with it. It goes before others where its function does.
pub record IsRecordOf (r : TaskRecord) (code : Code) (s : Submitted) (number place base : ℕ) : Type 0 where
  pub number_is : r.number ≡ number
  pub function : r.function ≡ s.function
  pub scalars : r.scalars.items ≡ []
  pub windows : map window r.windows.items ≡ plain base 4 ∷ []
  pub place_is : r.stack_place ≡ place
  pub inputs : r.inputs.items ≡ Given 0 ∷ []
  pub high : (f : Routine) (shape : Shape) → slice_get code.functions s.function ≡ Some f → f.task ≡ Some shape → r.high ≡ shape.high
  pub line : r.line ≡ s.line

-- The task of the call by itself, over what main's memory holds, comes to this end.
pub record TaskEnds (limits : Limits) (code : Code) (s : Submitted) (side : Side) (base : ℕ) (end : End) : Type 0 where
  pub to : PointsTo s base
  pub allowed : IsAllowed limits side base
  pub rec : TaskRecord
  pub is_of : IsRecordOf rec code s side.called (main_place side.space.state) base
  pub alone : IsAlone code rec (bytes_of_window side.space.state.memory (plain base 4) ∷ []) limits.task_units end

-- behind a call: main's memory has the task's out, and the object is pending
abbrev pub judged_behind : Judged → (base : ℕ) → (bytes : List ℕ) → Judged
judged_behind s base bytes = record { memory = with_window s.memory (plain base 4) bytes; objects = with_argument s.objects (plain_argument base) }

abbrev pub behind_task : Side → (base : ℕ) → (bytes : List ℕ) → Side
behind_task side base bytes = record {
  machine = side.machine;
  space = with_units (judged_behind side.space.state base bytes) side.space.units;
  is_started = side.is_started;
  called = side.called + 1;
}

-- A call whose task returns.
pub record TaskReturns (limits : Limits) (code : Code) (s : Submitted) (old new : Side) : Type 0 where
  pub base : ℕ
  pub outs : List (List ℕ)
  pub bytes : List ℕ
  pub ends : TaskEnds limits code s old base (Outs outs)
  pub out : slice_get outs 0 ≡ Some bytes
  pub new_is : new ≡ behind_task old base bytes

-- A call whose task stops.
pub record TaskStops (limits : Limits) (code : Code) (s : Submitted) (old : Side) (task : ℕ) (stop : Stop) (line : ℕ) : Type 0 where
  pub base : ℕ
  pub ends : TaskEnds limits code s old base (Halted stop line)
  pub task_is : task ≡ old.called

-- A call that a rule refuses.
pub record IsRefused (limits : Limits) (s : Submitted) (side : Side) (rule : Rule) : Type 0 where
  pub base : ℕ
  pub to : PointsTo s base
  pub broken : broken_by_call limits side.space.state (plain_argument base ∷ []) ≡ Some rule

-- How a run ends at a call: by a rule, or where the task stops; or it fails.
pub data CallEnds (limits : Limits) (code : Code) (s : Submitted) (side : Side) (pending : List ℕ) (c : Change) (ran : Ran) : Type 0 where
  Broken : (rule : Rule) → IsRefused limits s side rule → RanAs (endings.Stopped (stops.Rule rule) s.line whose.Main) pending c ran → CallEnds limits code s side pending c ran
  Stops : (task : ℕ) (stop : Stop) (line : ℕ) → TaskStops limits code s side task stop line → RanAs (endings.Stopped stop line (whose.Task task)) pending c ran
      → CallEnds limits code s side pending c ran
  Failed : Fails pending c ran → CallEnds limits code s side pending c ran

-- A call whose task returned, and its machine's answer.
abbrev pub AnswersCall : Limits → Code → Submitted → Side → Side → Type 0
AnswersCall limits code s old new = (between : Side) × TaskReturns limits code s old between × (new ≡ with_answer 0 between)

-- a yard's answer to a call whose task doesn't return
abbrev pub AnswersStop : Limits → Code → Submitted → Side → YardAnswer → Type 0
AnswersStop limits code s old (answers.Stopped task stop line) = TaskStops limits code s old task stop line
AnswersStop limits code s old answers.NoMemory = Unit {0}

-- the end of a run where a call's task doesn't return, by the yard's answer
abbrev pub EndsUnreturned : YardAnswer → (pending : List ℕ) → Change → Ran → Type 0
EndsUnreturned (answers.Stopped task stop line) pending c ran = RanAs (endings.Stopped stop line (whose.Task task)) pending c ran
EndsUnreturned answers.NoMemory pending c ran = Fails pending c ran
