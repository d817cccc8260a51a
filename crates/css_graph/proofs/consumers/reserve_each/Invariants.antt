use Rattle.std.proofs.Common.{◌≡◌, take, map}
use Rattle.css_graph.specs.Nodes.{IsAscending}
use Rattle.css_graph.specs.Consumers.{line_of, HaveRoom}
use Rattle.css_graph.proofs.consumers.reserve_each.Given as goal

abbrev pub invariant-loop-number : goal.invariant-loop-number
invariant-loop-number l = record {
  ordered : IsAscending (map (λ x. x.number) l.lists);
  room : HaveRoom (take l.number-index l.numbers) l.lists;
  lines : map line_of l.lists ≡ map line_of l.initial.lists;
}
