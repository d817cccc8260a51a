use Rattle.std.proofs.Common.{map, length}
use Rattle.css_semantics.specs.Tasks as tasks
use Rattle.css_semantics.specs.Rules.{overlaps_partly}
use Rattle.css_arguments.specs.Arguments.{given}
use Rattle.css_objects.specs.Table.{objects}
use Rattle.css_arguments.proofs.Looking.{AnyLeft}
use Rattle.css_objects.proofs.Judges.{StepsLeft}
use Rattle.css_objects.proofs.table.ObjectTable.overlaps_partly.Given as goal

abbrev pub invariant-loop-place : goal.invariant-loop-place
invariant-loop-place g l = record {
  left : AnyLeft (overlaps_partly (objects l.self) (map given l.arguments)) (map given l.arguments) 0 l.place;
  cost : StepsLeft (length l.self.rows) (length l.self.blocks) (map tasks.window (map given l.arguments)) l.place l.fn.steps l.steps;
}
