use Rattle.std.proofs.Common.{◌≡◌, take, drop, map}
use Rattle.css_graph.specs.Nodes.{IsAscending}
use Rattle.css_graph.specs.Consumers.{line_of, HaveRoom, with_each}
use Rattle.css_graph.proofs.consumers.append_each.Given as goal

abbrev pub invariant-loop-number : goal.invariant-loop-number
invariant-loop-number l = record {
  ordered : IsAscending (map (λ x. x.number) l.lists);
  room : HaveRoom (drop l.number-index l.numbers) l.lists;
  lines : map line_of l.lists ≡ with_each l.consumer (take l.number-index l.numbers) (map line_of l.initial.lists);
}
