-- Calls of tasks as reports have them.
use Rattle.std.specs.Prelude.{ℕ, Bool, List, [], map, Option, Some, None, slice_get, slice_index_or}
use Rattle.css_record.specs.declared.call.Call.{Call}
use Rattle.css_record.specs.Windows.{window}
use Rattle.css_record.specs.Records.{uses_by}
use Rattle.css_report.specs.declared.calls.CallList.{CallList}
use Rattle.css_semantics.specs.Tasks.{Use}
use Rattle.css_vm.specs.declared.code.ArgShape.{ArgShape}
use Rattle.css_vm.specs.Code.{Routine, Shape, Code, code_of}

-- A task's call: its number, its function's name and its line, the windows with what the task does with each, for each window whether
-- the task writes it and its object was pending, and the tasks that made what it reads.
pub record Shown : Type 0 where
  pub number : ℕ
  pub name : List ℕ
  pub line : ℕ
  pub uses : List Use
  pub renamed : List Bool
  pub producers : List ℕ

-- what a task is given for its parameters
abbrev pub given_to : Option Shape → List ArgShape
given_to None = []
given_to (Some shape) = shape.arguments

abbrev pub parts_of : Option Routine → List ArgShape
parts_of None = []
parts_of (Some f) = given_to f.task

-- what a call shows, by the code and the names of its functions
abbrev pub shown_by : Code → (names : List (List ℕ)) → Call → Shown
shown_by code names c = record {
  number = c.rec.number;
  name = slice_index_or names c.rec.function [];
  line = c.rec.line;
  uses = uses_by (parts_of (slice_get code.functions c.rec.function)) (map window c.rec.windows.items);
  renamed = c.renamed.items;
  producers = c.producers.items;
}

abbrev pub shown : CallList → List Shown
shown l = map (shown_by (code_of l.code.now) l.names.now) l.calls.now
