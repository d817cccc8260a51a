use Rattle.std.proofs.Common.{◌+◌, ◌-◌, ◌≤◌, length}
use Rattle.css_objects.proofs.Stores.{NoneMeetsFrom}
use Rattle.css_objects.proofs.search.last_meeting_block.Given as goal

abbrev pub invariant-loop-place : goal.invariant-loop-place
invariant-loop-place g l = record {
  below : l.place ≤ length l.blocks;
  none : NoneMeetsFrom l.blocks l.from l.to l.place;
  cost : l.steps ≤ l.fn.steps + (length l.blocks - l.place);
}

abbrev pub decreases-loop-place : goal.decreases-loop-place
decreases-loop-place g l = l.place
