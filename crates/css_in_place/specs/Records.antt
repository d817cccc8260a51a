-- The task of a record that is made of a call.
use Rattle.std.specs.Prelude.{filter, length, ◌≡◌, ◌++◌, ℕ, List, map, Option, Some}
use Rattle.css_base.specs.declared.limits.Limits.{Limits}
use Rattle.css_semantics.specs.Dialogue.{Call, Tape, Outcome, Goes}
use Rattle.css_semantics.specs.Memory.{memory_after}
use Rattle.css_semantics.specs.Flat.{FlatState}
use Rattle.css_semantics.specs.Tasks.{reads, windows}
use Rattle.css_semantics.specs.Verdict.{judged_in}
use Rattle.css_semantics.specs.Alone.{alone_world, outs_after}
use Rattle.css_vm.specs.Code.{Shape, Code}
use Rattle.css_vm.specs.Machine.{alone}
use Rattle.css_record.specs.declared.task_record.TaskRecord.{TaskRecord}
use Rattle.css_record.specs.Windows.{window}
use Rattle.css_record.specs.Records as records
use Rattle.css_in_place.specs.InPlace.{behind, alone_from, IsBodyTape, inputs_at, written_back}

-- a record that is made of a call: its function, its integers, its windows, main's stack place and the line
pub record IsOfCall (r : TaskRecord) (call : Call) (call_line : ℕ) : Type 0 where
  pub function : r.function ≡ call.function
  pub scalars : r.scalars.items ≡ call.scalars
  pub windows : map window r.windows.items ≡ windows call
  pub place : r.stack_place ≡ call.stack_place
  pub high : r.high ≡ call.is_high
  pub line : r.line ≡ call_line

-- what the windows of a record hold at a call that are read
abbrev pub inputs_of : (start : FlatState) → Tape → Shape → TaskRecord → List (List ℕ)
inputs_of start tape s r = inputs_at (memory_after start.memory tape) (records.uses s r)

-- a version for each window that is read
abbrev pub HasInputs : Shape → TaskRecord → Type 0
HasInputs s r = length r.inputs.items ≡ length (filter (λ u. reads u.direction) (records.uses s r))

-- the record fits the code, and what its windows hold at a call fits the windows
pub record FitsAtCall (code : Code) (start : FlatState) (tape : Tape) (s : Shape) (r : TaskRecord) : Type 0 where
  pub fits : records.FitsCode code r
  pub inputs : records.InputsFit (records.uses s r) (inputs_of start tape s r)

-- the task of a record by itself, over what its windows hold at a call
abbrev pub by_itself : Code → Limits → (start : FlatState) → Tape → Shape → TaskRecord → ℕ → Outcome (Option ℕ)
by_itself code limits start tape s r n = alone (alone_world limits (records.uses s r) (inputs_of start tape s r) r.stack_place) code r.function (records.arguments s r) r.line n

-- at a call, the body runs in the flat memory as the task of the record does by itself
pub record RunsAsRecord (code : Code) (limits : Limits) (start : FlatState) (tape : Tape) (k : ℕ) (arguments : List ℕ) (line : ℕ) (s : Shape) (r : TaskRecord) : Type 0 where
  pub dialogue : (n : ℕ) → alone_from (judged_in limits start) code k arguments line n tape ≡ behind (by_itself code limits start tape s r n) tape
  pub memory : (n cell : ℕ) (t : Tape) → by_itself code limits start tape s r n ≡ Goes (Some cell) t
      → memory_after start.memory (t ++ tape)
      ≡ written_back (memory_after start.memory tape) (records.uses s r) (outs_after (records.uses s r) (inputs_of start tape s r) r.stack_place t)
  pub tape_is : (n : ℕ) → IsBodyTape (by_itself code limits start tape s r n)
