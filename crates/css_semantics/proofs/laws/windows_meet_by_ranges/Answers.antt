use Rattle.css_semantics.proofs.WindowRanges.{some_is_range, share_is_rows}
use Rattle.css_semantics.proofs.laws.windows_meet_by_ranges.Goals as goal

pub returns-clause-bytes : goal.returns-clause-bytes
returns-clause-bytes c = some_is_range

pub returns-clause-windows : goal.returns-clause-windows
returns-clause-windows c = share_is_rows
