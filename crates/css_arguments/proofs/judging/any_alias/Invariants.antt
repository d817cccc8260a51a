use Rattle.std.proofs.Common.{map}
use Rattle.css_arguments.specs.Arguments.{given}
use Rattle.css_arguments.proofs.Looking.{AliasLeft}
use Rattle.css_arguments.proofs.judging.any_alias.Given as goal

abbrev pub invariant-loop-place : goal.invariant-loop-place
invariant-loop-place l = AliasLeft (map given l.arguments) l.place
