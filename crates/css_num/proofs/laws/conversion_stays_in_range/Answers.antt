use Rattle.css_num.proofs.Ranges.{converted_in_range}
use Rattle.css_num.proofs.laws.conversion_stays_in_range.Goals as goal

pub returns : goal.returns
returns c = converted_in_range
