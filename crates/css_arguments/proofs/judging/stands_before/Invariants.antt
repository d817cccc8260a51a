use Rattle.std.proofs.Common.{map}
use Rattle.css_semantics.specs.Tasks as tasks
use Rattle.css_record.specs.Windows.{window}
use Rattle.css_arguments.specs.Arguments.{given}
use Rattle.css_arguments.proofs.Looking.{NoneBefore}
use Rattle.css_arguments.proofs.judging.stands_before.Given as goal

abbrev pub invariant-loop-place : goal.invariant-loop-place
invariant-loop-place l = NoneBefore (λ w. tasks.is_same_window w (window l.window)) (map tasks.window (map given l.arguments)) l.place
