use Rattle.std.proofs.Common.{◌+◌, ◌≤◌}
use Rattle.css_objects.proofs.Tables.{NoneMet}
use Rattle.css_objects.proofs.part.Part.has_written.Given as goal

abbrev pub invariant-loop-place : goal.invariant-loop-place
invariant-loop-place g l = record {
  none : NoneMet l.self l.from l.to l.place;
  cost : l.steps ≤ l.fn.steps + l.place;
}
