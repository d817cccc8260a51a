use Rattle.std.proofs.Common.{map}
use Rattle.css_semantics.specs.Tasks as tasks
use Rattle.css_semantics.specs.Rules.{overlap}
use Rattle.css_record.specs.Windows.{window}
use Rattle.css_arguments.specs.Arguments.{given}
use Rattle.css_arguments.proofs.Looking.{AnyLeft}
use Rattle.css_arguments.proofs.judging.overlaps_given.Given as goal

abbrev pub invariant-loop-place : goal.invariant-loop-place
invariant-loop-place l = AnyLeft (λ b. overlap (window l.window) (tasks.window b)) (map given l.arguments) 0 l.place
