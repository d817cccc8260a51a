use Rattle.std.proofs.Common.{take}
use Rattle.css_graph.specs.Chain.{Knows}
use Rattle.css_graph.proofs.chain.chain_of.Given as goal

abbrev pub invariant-loop-number : goal.invariant-loop-number
invariant-loop-number l = Knows l.chain l.agenda (take l.number-index l.bundle)
