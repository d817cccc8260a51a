use Rattle.std.proofs.Common.{◌≡◌, ◌+◌, drop}
use Rattle.css_semantics.specs.Rules.{is_in_frame}
use Rattle.css_semantics.specs.TaskSpaces.{total}
use Rattle.css_task.proofs.task_stack.lies_in_frame.Given as goal

abbrev pub invariant-loop-i : goal.invariant-loop-i
invariant-loop-i l = record {
  whole : l.place + total (drop l.i l.sizes) ≡ l.initial.place + total l.sizes;
  rest : is_in_frame (l.initial.place + total l.sizes) (drop l.i l.sizes) l.address l.count ≡ is_in_frame (l.initial.place + total l.sizes) l.sizes l.address l.count;
}
