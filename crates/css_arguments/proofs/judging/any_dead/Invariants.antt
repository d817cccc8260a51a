use Rattle.std.proofs.Common.{map, not}
use Rattle.css_semantics.specs.Tasks as tasks
use Rattle.css_semantics.specs.Rules.{all_of_window}
use Rattle.css_arguments.specs.Arguments.{given}
use Rattle.css_arguments.specs.Layouts.{is_live_at}
use Rattle.css_arguments.proofs.Looking.{AnyLeft}
use Rattle.css_arguments.proofs.judging.any_dead.Given as goal

abbrev pub invariant-loop-place : goal.invariant-loop-place
invariant-loop-place l = AnyLeft (λ a. not (all_of_window (is_live_at l.layout) (tasks.window a))) (map given l.arguments) 0 l.place
