-- What contracts see of the yard that runs each task when it is submitted.
use Rattle.std.specs.Prelude.{◌≡◌, List, [], ◌∷◌, Some, option_map}
use Rattle.css_base.specs.declared.limits.Limits.{Limits}
use Rattle.css_record.specs.declared.task_record.TaskRecord.{TaskRecord}
use Rattle.css_vm.specs.Code.{Code}
use Rattle.css_vm.specs.Soundness.{Spot, IsSound}
use Rattle.css_yard.specs.declared.answer.YardAnswer.{YardAnswer}
use Rattle.css_yard.specs.declared.answer.YardAnswer.TheVariants as answers
use Rattle.css_yard.specs.declared.done.Done.{Done}
use Rattle.css_yard.specs.declared.note.Note.{Note}
use Rattle.css_yard.specs.declared.standing.Phase as coded
use Rattle.css_yard.specs.declared.standing.Phase.TheVariants as phases
use Rattle.css_yard.specs.declared.standing.Standing.{Standing}
use Rattle.css_yard.specs.Yards.{Phase, Open, Refused, Closed, State, with_record}
use Rattle.css_yard.specs.Kept.{submits_of, stopping, first_stop, AreDone}

-- the code whose tasks it runs, its limits, and what it has come to
pub record OrderYard : Type 0 where
  pub code : Code
  pub limits : Limits
  pub state : State

abbrev pub phase_of : coded.Phase → Phase
phase_of phases.Open = Open
phase_of phases.Refused = Refused
phase_of phases.Closed = Closed

-- the records that these notes add, parted by settles
abbrev pub parts_behind : List (List TaskRecord) → List Note → List (List TaskRecord)
parts_behind parts [] = parts
parts_behind parts (n ∷ notes) = parts_behind (with_record parts n.is_first.value n.rec.value) notes

abbrev pub parts_of : List Note → List (List TaskRecord)
parts_of notes = parts_behind [] notes

abbrev pub state_of : List Done → List Note → Standing → State
state_of tasks notes s = record {
  submits = submits_of tasks;
  parts = parts_of notes;
  phase = phase_of s.phase;
  is_used = s.is_used;
  is_starved = s.is_starved;
  stopped = option_map stopping s.stopped;
}

-- the code is sound, and the tasks are those of a generation
pub record IsOrdered (code : Code) (limits : Limits) (tasks : List Done) : Type 0 where
  pub sound : (plans : List (List Spot)) × IsSound code plans
  pub done : AreDone code limits tasks

-- a Stopped names the first task that has stopped
abbrev pub IsAnswer : List Done → YardAnswer → Type 0
IsAnswer tasks (answers.Stopped task stop line) = first_stop tasks ≡ Some (record { task = task; stop = stop; line = line })
IsAnswer tasks answers.NoMemory = Unit {0}
