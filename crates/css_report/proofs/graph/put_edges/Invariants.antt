use Rattle.std.proofs.Common.{◌≡◌, ◌++◌, take, flat_map}
use Rattle.css_report.specs.Graphs.{edge_line}
use Rattle.css_report.proofs.graph.put_edges.Given as goal

abbrev pub invariant-loop-producer : goal.invariant-loop-producer
invariant-loop-producer l = l.text.items ≡ l.fn.text.items ++ flat_map (edge_line l.fn.number) (take l.producer-index l.producers)
