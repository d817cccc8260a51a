use Rattle.std.proofs.Common.{map, ◌&&◌, ◌||◌}
use Rattle.css_semantics.specs.Tasks as tasks
use Rattle.css_record.specs.Windows.{window}
use Rattle.css_arguments.specs.Arguments.{given}
use Rattle.css_arguments.proofs.Looking.{AnyLeft}
use Rattle.css_arguments.proofs.judging.is_aliased.Given as goal

abbrev pub invariant-loop-place : goal.invariant-loop-place
invariant-loop-place l =
    AnyLeft (λ b. tasks.is_same_window (window l.window) (tasks.window b) && (l.written || tasks.writes b.direction)) (map given l.arguments) l.fn.from l.place
