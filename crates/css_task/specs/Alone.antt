-- What a task's run by itself comes to.
use Rattle.std.specs.Prelude.{◌≡◌, ℕ, List, Some, slice_get}
use Rattle.css_base.specs.declared.ending.Stop.{Stop}
use Rattle.css_base.specs.declared.limits.Limits.{Limits}
use Rattle.css_semantics.specs.Dialogue.{Tape, Goes, Stops, Stopped}
use Rattle.css_semantics.specs.Alone.{alone_world, outs_after}
use Rattle.css_vm.specs.Code.{Routine, Shape, Code}
use Rattle.css_vm.specs.Machine.{alone}
use Rattle.css_record.specs.declared.task_record.TaskRecord.{TaskRecord}
use Rattle.css_record.specs.Records.{uses, arguments, InputsFit}
use Rattle.css_task.specs.declared.shared.SharedEnd.{SharedEnd}
use Rattle.css_task.specs.declared.shared.SharedEnd.TheVariants as ends

-- the routine and the shape of a record's task
pub record TaskOf (code : Code) (r : TaskRecord) (f : Routine) (s : Shape) : Type 0 where
  pub function : slice_get code.functions r.function ≡ Some f
  pub task : f.task ≡ Some s

-- the buffers are the inputs of the record's reading parameters
abbrev pub InputsOf : Code → TaskRecord → (inputs : List (List ℕ)) → Type 0
InputsOf code r inputs = (f : Routine) (s : Shape) → TaskOf code r f s → InputsFit (uses s r) inputs

-- how a task by itself ends: with what its windows have that it writes, in order of parameters, or with a stop in a line
pub data End : Type 0 where
  Outs : (outs : List (List ℕ)) → End
  Halted : (stop : Stop) (line : ℕ) → End

abbrev pub end_of : SharedEnd → End
end_of (ends.Outs outs) = Outs outs.items
end_of (ends.Stopped stop line) = Halted stop line

-- In the world of its windows, with these inputs, its stack place and these limits, the task's body comes to this end.
abbrev pub ComesTo : Code → TaskRecord → Shape → (inputs : List (List ℕ)) → Limits → End → Type 0
ComesTo code r s inputs limits (Outs outs) =
    (n : ℕ) × (cell : ℕ) × (tape : Tape)
    × (alone (alone_world limits (uses s r) inputs r.stack_place) code r.function (arguments s r) r.line n ≡ Goes (Some cell) tape)
    × (outs ≡ outs_after (uses s r) inputs r.stack_place tape)
ComesTo code r s inputs limits (Halted stop line) =
    (n : ℕ) × (tape : Tape)
    × (alone (alone_world limits (uses s r) inputs r.stack_place) code r.function (arguments s r) r.line n ≡ Stops (Stopped stop line) tape)

-- The record is of a task, which alone comes to this end: of the limits only the task's units matter.
pub record IsAlone (code : Code) (r : TaskRecord) (inputs : List (List ℕ)) (units : ℕ) (end : End) : Type 0 where
  pub routine : Routine
  pub shape : Shape
  pub task : TaskOf code r routine shape
  pub comes : (limits : Limits) → limits.task_units ≡ units → ComesTo code r shape inputs limits end
