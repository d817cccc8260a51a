use Rattle.std.proofs.Common.{map, ◌+◌, ◌*◌, ◌^◌, ◌≤◌}
use Rattle.css_semantics.specs.Tasks as tasks
use Rattle.css_arguments.specs.Arguments.{given}
use Rattle.css_arguments.proofs.Looking.{RoomLeft}
use Rattle.css_arguments.proofs.judging.room.Given as goal

abbrev pub invariant-loop-place : goal.invariant-loop-place
invariant-loop-place l = record {
  left : RoomLeft (map tasks.window (map given l.arguments)) l.place l.room;
  small : l.room ≤ 16384 + l.place * (2 ^ 30 + 128);
}
