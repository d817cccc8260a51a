use Rattle.std.proofs.Common.{◌≡◌}
use Rattle.css_record.specs.Windows.{window}
use Rattle.css_semantics.specs.WindowRanges.{rows_share}
use Rattle.css_semantics.proofs.WindowRanges.{rows_left}
use Rattle.css_arguments.proofs.window.rows_share_with.Given as goal

abbrev pub invariant-loop-row : goal.invariant-loop-row
invariant-loop-row l = rows_left (window l.b) (window l.a) l.row ≡ rows_share (window l.b) l.a.rows l.a.base l.a.width l.a.stride
