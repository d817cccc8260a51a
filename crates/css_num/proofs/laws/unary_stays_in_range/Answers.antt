use Rattle.css_num.proofs.Values.{unary_in_range}
use Rattle.css_num.proofs.laws.unary_stays_in_range.Goals as goal

pub returns : goal.returns
returns c = unary_in_range
