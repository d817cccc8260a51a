use Rattle.std.proofs.Common.{◌≡◌, ◌++◌, take}
use Rattle.css_graph.proofs.queue.Queue.append_front.Given as goal

abbrev pub invariant-loop-place : goal.invariant-loop-place
invariant-loop-place l = l.numbers.items ≡ l.initial.numbers.items ++ take l.place l.self.numbers
