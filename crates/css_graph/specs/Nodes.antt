-- How the graph keeps its tasks: a node for each, and the numbers of the nodes that are ready.
use Rattle.std.specs.Prelude.{◌≡◌, ℕ, ◌==◌, ◌+◌, ◌-◌, nat_lt, Bool, true, false, ◌&&◌, ◌||◌, not, List, [], ◌∷◌, ◌++◌, map, filter, if◌then◌else◌, Option, Some, None, min}
use Rattle.std.specs.List.{list_any, list_all}
use Rattle.css_graph.specs.declared.state.TaskState.{TaskState}
use Rattle.css_graph.specs.declared.node.Node.{Node}
use Rattle.css_graph.specs.Tasks.{Task, is_waiting, is_among}

-- the task that a node keeps
abbrev pub task_of : Node → Task
task_of x = record { number = x.number; producers = x.producers.items; high = x.high; state = x.state }

-- how many numbers pass a test
abbrev pub count_where : (ℕ → Bool) → List ℕ → ℕ
count_where test [] = 0
count_where test (n ∷ numbers) = (if test n then 1 else 0) + count_where test numbers

-- each number is below those after it
abbrev pub IsAscending : List ℕ → Type 0
IsAscending [] = Unit {0}
IsAscending (n ∷ ns) = (list_all (nat_lt n) ns ≡ true) × IsAscending ns

-- the number is below the bound, if there is one
abbrev pub is_below : Option ℕ → ℕ → Bool
is_below None n = true
is_below (Some b) n = nat_lt n b

-- the lower of a bound and a number
abbrev pub lower_bound : Option ℕ → ℕ → Option ℕ
lower_bound None n = Some n
lower_bound (Some b) n = Some (min b n)

-- the nodes, and the bound that ready ones stand below, and how many nodes have room
pub record Agenda : Type 0 where
  pub nodes : List Node
  pub bound : Option ℕ
  pub room : ℕ

-- a node waits, misses no producer, and stands below the bound
abbrev pub is_ready : Option ℕ → Node → Bool
is_ready bound x = is_waiting x.state && ((x.missing == 0) && is_below bound x.number)

-- the numbers of the nodes that pass a test, in order
abbrev pub numbers_where : (Node → Bool) → List Node → List ℕ
numbers_where test nodes = map (λ x. x.number) (filter test nodes)

-- the ready ones among the high ones, and among the others
abbrev pub ready_high : Option ℕ → Node → Bool
ready_high bound x = is_ready bound x && x.high

abbrev pub ready_low : Option ℕ → Node → Bool
ready_low bound x = is_ready bound x && not x.high

-- the nodes, where that of one number has changed
abbrev pub at_number : ℕ → (Node → Node) → List Node → List Node
at_number n change nodes = map (λ x. if x.number == n then change x else x) nodes

abbrev pub in_state : TaskState → Node → Node
in_state state x = record {
  number = x.number;
  producers = x.producers;
  high = x.high;
  state = state;
  missing = x.missing;
}

abbrev pub one_less_missing : Node → Node
one_less_missing x = record {
  number = x.number;
  producers = x.producers;
  high = x.high;
  state = x.state;
  missing = x.missing - 1;
}

-- a node, where its state has changed if its number is in the list
abbrev pub in_state_by : TaskState → List ℕ → Node → Node
in_state_by state numbers x = record {
  number = x.number;
  producers = x.producers;
  high = x.high;
  state = (if is_among numbers x.number then state else x.state);
  missing = x.missing;
}

-- a node that misses one less for each time that its number is in the list
abbrev pub less_by : List ℕ → Node → Node
less_by numbers x = record {
  number = x.number;
  producers = x.producers;
  high = x.high;
  state = x.state;
  missing = x.missing - count_where (λ c. c == x.number) numbers;
}

-- numbers in order, and for how many there is room
pub record Queue : Type 0 where
  pub numbers : List ℕ
  pub room : ℕ

-- the numbers below one, and above it
abbrev pub below : ℕ → List ℕ → List ℕ
below n numbers = filter (λ m. nat_lt m n) numbers

abbrev pub above : ℕ → List ℕ → List ℕ
above n numbers = filter (λ m. nat_lt n m) numbers

-- the numbers in order, with or without this one
abbrev pub put : ℕ → Bool → List ℕ → List ℕ
put n wanted numbers = below n numbers ++ ((if wanted then n ∷ [] else []) ++ above n numbers)

-- the numbers begin with this one
abbrev pub begins_with : List ℕ → ℕ → Bool
begins_with [] n = false
begins_with (m ∷ _) n = m == n
