use Rattle.css_num.proofs.Values.{binary_in_range}
use Rattle.css_num.proofs.laws.binary_stays_in_range.Goals as goal

pub returns : goal.returns
returns c = binary_in_range
