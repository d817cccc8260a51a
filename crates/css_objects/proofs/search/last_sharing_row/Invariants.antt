use Rattle.std.proofs.Common.{◌≤◌, length}
use Rattle.css_objects.proofs.OneRowSearches.{NoneFrom, RowsTake}
use Rattle.css_objects.proofs.search.last_sharing_row.Given as goal

abbrev pub invariant-loop-row : goal.invariant-loop-row
invariant-loop-row g l = record {
  below : l.row ≤ l.window.rows;
  none : NoneFrom l.rows l.window l.row;
  cost : RowsTake (length l.rows) l.window.rows l.row l.fn.steps l.steps;
}

abbrev pub decreases-loop-row : goal.decreases-loop-row
decreases-loop-row g l = l.row
