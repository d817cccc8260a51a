-- Main's run over a yard, against the verdict on its code.
use Rattle.std.specs.Prelude.{◌≡◌, ◌≤◌, ℕ, ℤ, Bool, ◌⊎◌, List, [], ◌∷◌, ◌++◌, length, Option, Some, slice_get}
use Rattle.css_base.specs.declared.limits.Limits.{Limits}
use Rattle.css_io.specs.Changes.{Change, Got}
use Rattle.css_judged.specs.Judged.{Judged, IsMainAt}
use Rattle.css_record.specs.declared.task_record.TaskRecord.{TaskRecord}
use Rattle.css_semantics.specs.Dialogue.{Tape, Outcome, Goes, Stops, output, then_do}
use Rattle.css_semantics.specs.Flat.{FlatState, no_globals}
use Rattle.css_semantics.specs.Tasks.{is_started, called}
use Rattle.css_semantics.specs.Units.{Metered}
use Rattle.css_semantics.specs.Verdict.{Verdict, verdict, judged_in}
use Rattle.css_vm.specs.Code.{Code}
use Rattle.css_vm.specs.Machine.{State, frame_of, exec, main_ends, target}
use Rattle.css_yard.specs.Yards as yards
use Rattle.css_main_side.specs.Ran.{RanAs}
use Rattle.css_main_side.specs.declared.ran.Ran.{Ran}

-- where main's run begins: so far a program has no globals, and reads nothing
abbrev pub begins : Limits → FlatState
begins limits = no_globals limits.memory

-- a program's outcome as its code's
abbrev pub halted : Outcome ℤ → Outcome (Option ℤ)
halted (Goes v tape) = Goes (Some v) tape
halted (Stops why tape) = Stops why tape

-- The code's dialogue in the judged world of a start comes to this verdict.
pub record ComesToVerdict (limits : Limits) (start : FlatState) (code : Code) (v : Verdict) : Type 0 where
  pub steps : ℕ
  pub outcome : Outcome ℤ
  pub comes : target (judged_in limits start) code steps ≡ halted outcome
  pub is : verdict start.memory outcome ≡ Some v

-- A yard of this code and these limits that has had no call.
pub record IsFresh (code : Code) (limits : Limits) (its_code : Code) (its_limits : Limits) (state : yards.State) : Type 0 where
  pub code_is : its_code ≡ code
  pub limits_are : its_limits ≡ limits
  pub state_is : state ≡ yards.fresh

-- Each task is settled by itself: the part of a number is the record of the task of that number.
abbrev pub AreOneByOne : (parts : List (List TaskRecord)) → Type 0
AreOneByOne parts = (k : ℕ) (part : List TaskRecord) → slice_get parts k ≡ Some part → (r : TaskRecord) × (part ≡ r ∷ []) × (r.number ≡ k)

-- A yard of this code and these limits that takes calls, has no task that isn't settled, and has had so many.
pub record IsReady (code : Code) (limits : Limits) (called : ℕ) (its_code : Code) (its_limits : Limits) (state : yards.State) : Type 0 where
  pub code_is : its_code ≡ code
  pub limits_are : its_limits ≡ limits
  pub takes_calls : state.phase ≡ yards.Open
  pub settled : state.submits ≡ []
  pub parts : AreOneByOne state.parts
  pub many : length state.parts ≡ called

-- What a run leaves of its yard: the code and the limits are as they were, nothing is left that isn't settled, unless the yard takes
-- nothing any more, and each task was settled by itself.
pub record IsLeft (code : Code) (limits : Limits) (its_code : Code) (its_limits : Limits) (state : yards.State) : Type 0 where
  pub code_is : its_code ≡ code
  pub limits_are : its_limits ≡ limits
  pub settled : (state.phase ≡ yards.Closed) ⊎ (state.submits ≡ [])
  pub parts : AreOneByOne state.parts

-- the bytes of main's frame
abbrev pub main_frame : Code → ℕ
main_frame code = frame_of (slice_get code.functions code.main)

-- What main's run keeps: its machine, its memory with what is pending and the units that are left, whether calls make tasks, and how
-- many tasks were called.
pub record Side : Type 0 where
  pub machine : State
  pub space : Metered Judged
  pub is_started : Bool
  pub called : ℕ

-- What main's run keeps is so at some tape from a start.
pub record Stands (limits : Limits) (start : FlatState) (side : Side) : Type 0 where
  pub so_far : Tape
  pub at : IsMainAt limits start so_far side.space
  pub started_is : is_started so_far ≡ side.is_started
  pub called_is : called so_far ≡ side.called

-- From here, after what the tape so far has written, the code's dialogue in the judged world comes to the verdict.
pub record Playing (limits : Limits) (start : FlatState) (code : Code) (v : Verdict) (side : Side) (written : List ℕ) : Type 0 where
  pub stands : Stands limits start side
  pub written_is : output stands.so_far ≡ written
  pub steps : ℕ
  pub outcome : Outcome ℤ
  pub goes : then_do (exec (judged_in limits start) code steps side.machine stands.so_far) (main_ends (judged_in limits start) (main_frame code)) ≡ halted outcome
  pub verdict_is : verdict start.memory outcome ≡ Some v

-- A part of the run: the sink got some bytes, and wherever the run was on its way to a verdict it still is. The count of faults
-- doesn't fall.
pub record GoesOn (limits : Limits) (start : FlatState) (code : Code) (old new : Side) (pending pending' : List ℕ) (c : Change) : Type 0 where
  pub front : List ℕ
  pub got : Got c front
  pub playing : (v : Verdict) (written : List ℕ) → Playing limits start code v old (written ++ pending) → Playing limits start code v new (written ++ front ++ pending')
  pub never_fell : c.faults_before ≤ c.faults_after

-- The last part: of the output that is left, all with the ending, or a prefix.
abbrev pub EndsRun : Limits → (start : FlatState) → Code → Side → (pending : List ℕ) → Change → Ran → Type 0
EndsRun limits start code old pending c ran = (v : Verdict) (written : List ℕ) → Playing limits start code v old (written ++ pending)
    → (rest : List ℕ) × (v.output ≡ written ++ rest) × RanAs v.ending rest c ran
