use Rattle.std.proofs.Common.{drop}
use Rattle.css_arguments.proofs.Measures.{IsLeft}
use Rattle.css_arguments.proofs.argument.length.Given as goal

abbrev pub invariant-loop-dimension : goal.invariant-loop-dimension
invariant-loop-dimension l = IsLeft l.fn.element l.dimensions l.length (drop l.dimension-index l.dimensions)
