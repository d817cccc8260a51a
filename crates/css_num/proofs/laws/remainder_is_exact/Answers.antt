use Rattle.css_num.proofs.Ranges.{remainder-is}
use Rattle.css_num.proofs.laws.remainder_is_exact.Goals as goal

pub returns : goal.returns
returns c = remainder-is
