-- The dependence graph of a history's tasks.
use Rattle.std.specs.Prelude.{ℕ, List, [], ◌∷◌, ◌++◌, map, if◌then◌else◌}
use Rattle.css_record.specs.declared.version.VersionName.{VersionName}
use Rattle.css_record.specs.declared.version.VersionName.TheVariants as names
use Rattle.css_task.specs.Alone.{Outs, Halted}
use Rattle.css_yard.specs.Values.{Submit}
use Rattle.css_graph.specs.declared.state.TaskState.{TaskState}
use Rattle.css_graph.specs.declared.state.TaskState.TheVariants as states
use Rattle.css_graph.specs.Tasks.{Task, TaskGraph, is_among}
use Rattle.css_history.specs.declared.entry.Entry.{Entry}
use Rattle.css_history.specs.Histories.{submits, Standing, Waiting, Held, Ended, standing}

-- what has become of a task, as the graph says it
abbrev pub state_of : Standing → TaskState
state_of Waiting = states.Waiting
state_of (Held w) = states.Out
state_of (Ended (Outs outs)) = states.Finished
state_of (Ended (Halted stop line)) = states.Stopped

-- the numbers, and this one if it isn't among them
abbrev pub with_number : List ℕ → ℕ → List ℕ
with_number numbers n = if is_among numbers n then numbers else numbers ++ n ∷ []

-- the different tasks that make versions, in order of the versions
abbrev pub producers_after : List ℕ → List VersionName → List ℕ
producers_after numbers [] = numbers
producers_after numbers (names.Given place ∷ versions) = producers_after numbers versions
producers_after numbers (names.Made task out ∷ versions) = producers_after (with_number numbers task) versions

abbrev pub producers_of : List VersionName → List ℕ
producers_of versions = producers_after [] versions

abbrev pub task_of : List Entry → Submit → Task
task_of log s = record {
  number = s.rec.number;
  producers = producers_of s.rec.inputs.items;
  high = s.rec.high;
  state = state_of (standing s.rec.number log);
}

abbrev pub tasks_of : List Entry → List Task
tasks_of log = map (task_of log) (submits log)

abbrev pub graph_of : (workers : ℕ) → List Entry → TaskGraph
graph_of workers log = record { workers = workers; tasks = tasks_of log }
