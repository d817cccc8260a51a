use Rattle.std.proofs.Common.{◌+◌, ◌-◌, ◌≤◌, length}
use Rattle.css_objects.proofs.OneRowSearches.{NoneSharesFrom}
use Rattle.css_objects.proofs.search.last_sharing_block.Given as goal

abbrev pub invariant-loop-place : goal.invariant-loop-place
invariant-loop-place g l = record {
  below : l.place ≤ length l.blocks;
  none : NoneSharesFrom l.blocks l.window l.place;
  cost : l.steps ≤ l.fn.steps + (length l.blocks - l.place);
}

abbrev pub decreases-loop-place : goal.decreases-loop-place
decreases-loop-place g l = l.place
