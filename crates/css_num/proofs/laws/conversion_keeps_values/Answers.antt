use Rattle.css_num.proofs.Ranges.{converted-value}
use Rattle.css_num.proofs.laws.conversion_keeps_values.Goals as goal

pub returns : goal.returns
returns c = converted-value
