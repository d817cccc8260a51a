use Rattle.css_arguments.specs.Arguments.{is_unfit}
use Rattle.css_arguments.proofs.Looking.{AnyLeft}
use Rattle.css_arguments.proofs.judging.any_unfit.Given as goal

abbrev pub invariant-loop-argument : goal.invariant-loop-argument
invariant-loop-argument l = AnyLeft is_unfit l.arguments 0 l.argument-index
