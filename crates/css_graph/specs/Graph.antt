-- What holds of a graph at every moment.
use Rattle.std.specs.Prelude.{◌≡◌, ℕ, true, nat_lt, not, List, map}
use Rattle.std.specs.List.{All, list_all}
use Rattle.css_graph.specs.declared.node.Node.{Node}
use Rattle.css_graph.specs.Tasks.{Task, is_number_finished, is_below_stops}
use Rattle.css_graph.specs.Bundle.{AreDifferent}
use Rattle.css_graph.specs.Nodes.{Agenda, count_where, IsAscending, task_of, is_below}
use Rattle.css_graph.specs.Consumers.{lines_of}

-- the node's producers differ and stand below it, and it counts those of them that aren't finished
pub record IsCounted (tasks : List Task) (x : Node) : Type 0 where
  pub earlier : list_all (λ p. nat_lt p x.number) x.producers.items ≡ true
  pub different : AreDifferent x.producers.items
  pub missing : x.missing ≡ count_where (λ p. not (is_number_finished tasks p)) x.producers.items

-- the nodes stand in order of number and are counted, the bound is the least stopped number, and each
-- task has the list of those that need it
pub record IsTied (plan : Agenda) (lines : List (ℕ × List ℕ)) : Type 0 where
  pub ordered : IsAscending (map (λ x. x.number) plan.nodes)
  pub counted : All (IsCounted (map task_of plan.nodes)) plan.nodes
  pub bound : (n : ℕ) → is_below plan.bound n ≡ is_below_stops (map task_of plan.nodes) n
  pub consumers : lines ≡ lines_of (map task_of plan.nodes)
