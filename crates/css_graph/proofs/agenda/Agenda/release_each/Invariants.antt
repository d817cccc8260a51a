use Rattle.std.proofs.Common.{◌≡◌, take, map}
use Rattle.css_graph.specs.Nodes.{in_state_by, less_by}
use Rattle.css_graph.proofs.agenda.Agenda.release_each.Given as goal

abbrev pub invariant-loop-number : goal.invariant-loop-number
invariant-loop-number l = record {
  nodes : l.self.nodes ≡ map (less_by (take l.number-index l.numbers)) l.initial.self.nodes;
  bound : l.self.bound ≡ l.initial.self.bound;
}
