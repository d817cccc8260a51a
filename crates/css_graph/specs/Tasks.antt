-- Tasks, their producers, and what has become of them.
use Rattle.std.specs.Prelude.{ℕ, ◌==◌, nat_lt, Bool, true, false, ◌&&◌, ◌||◌, not, List, [], ◌∷◌, ◌++◌, map, if◌then◌else◌}
use Rattle.std.specs.List.{list_any, list_all}
use Rattle.css_graph.specs.declared.state.TaskState.{TaskState}
use Rattle.css_graph.specs.declared.state.TaskState.TheVariants.{Waiting, Out, Finished, Stopped}

-- an added task: its number, the numbers of the tasks that it needs, whether it goes first, and what
-- has become of it
pub record Task : Type 0 where
  pub number : ℕ
  pub producers : List ℕ
  pub high : Bool
  pub state : TaskState

-- a graph: for how many workers bundles are made, and the added tasks in order of number
pub record TaskGraph : Type 0 where
  pub workers : ℕ
  pub tasks : List Task

abbrev pub is_waiting : TaskState → Bool
is_waiting Waiting = true
is_waiting Out = false
is_waiting Finished = false
is_waiting Stopped = false

abbrev pub is_out : TaskState → Bool
is_out Waiting = false
is_out Out = true
is_out Finished = false
is_out Stopped = false

abbrev pub is_finished : TaskState → Bool
is_finished Waiting = false
is_finished Out = false
is_finished Finished = true
is_finished Stopped = false

abbrev pub is_stopped : TaskState → Bool
is_stopped Waiting = false
is_stopped Out = false
is_stopped Finished = false
is_stopped Stopped = true

-- the number is in the list
abbrev pub is_among : List ℕ → ℕ → Bool
is_among numbers n = list_any (λ m. m == n) numbers

-- a task has this number, and passes the test
abbrev pub some_task : (TaskState → Bool) → List Task → ℕ → Bool
some_task test tasks n = list_any (λ t. (t.number == n) && test t.state) tasks

-- the number is that of an added task; of one that waits, is out, or is finished
unfoldable pub is_number_added : List Task → ℕ → Bool
is_number_added = some_task (λ _. true)

unfoldable pub is_number_waiting : List Task → ℕ → Bool
is_number_waiting = some_task is_waiting

unfoldable pub is_number_out : List Task → ℕ → Bool
is_number_out = some_task is_out

unfoldable pub is_number_finished : List Task → ℕ → Bool
is_number_finished = some_task is_finished

-- the number stands below that of each stopped task
unfoldable pub is_below_stops : List Task → ℕ → Bool
is_below_stops tasks n = list_all (λ t. not (is_stopped t.state) || nat_lt n t.number) tasks

-- the tasks, where those whose numbers are in the list have come to this state
unfoldable pub come_to : TaskState → List ℕ → List Task → List Task
come_to state numbers tasks =
    map (λ t. record {
      number = t.number;
      producers = t.producers;
      high = t.high;
      state = (if is_among numbers t.number then state else t.state);
    }) tasks

-- the graph with one more task, which waits
abbrev pub with_task : TaskGraph → ℕ → List ℕ → Bool → TaskGraph
with_task g number producers high = record {
  workers = g.workers;
  tasks = g.tasks ++ record { number = number; producers = producers; high = high; state = Waiting } ∷ [];
}

-- the graph, where the tasks of these numbers have come to this state
abbrev pub where_come : TaskGraph → TaskState → List ℕ → TaskGraph
where_come g state numbers = record { workers = g.workers; tasks = come_to state numbers g.tasks }
