-- What holds of the nodes and queues at every moment.
use Rattle.std.specs.Prelude.{◌≡◌, ◌<◌, ◌≤◌, ◌^◌, map, length}
use Rattle.css_graph.specs.declared.agenda.Agenda.TheInside.{Inside}
use Rattle.css_graph.specs.Nodes.{IsAscending, numbers_where, ready_high, ready_low}

-- the nodes stand in order of number, the queues have the numbers of the ready ones, and there is
-- room in each for as many numbers as there is room for nodes, few enough to count in a `usize`
pub record IsSound (a : Inside) : Type 0 where
  pub ordered : IsAscending (map (λ x. x.number) a.nodes.items)
  pub high : a.high.numbers ≡ numbers_where (ready_high a.bound) a.nodes.items
  pub low : a.low.numbers ≡ numbers_where (ready_low a.bound) a.nodes.items
  pub within : length a.nodes.items ≤ a.room
  pub nodes_room : a.room ≤ a.nodes.room
  pub high_room : a.room ≤ a.high.room
  pub low_room : a.room ≤ a.low.room
  pub small : a.room < 2 ^ 63
