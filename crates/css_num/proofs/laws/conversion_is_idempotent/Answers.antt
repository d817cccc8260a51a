use Rattle.css_num.proofs.Ranges.{converted_in_range, converted-value}
use Rattle.css_num.proofs.laws.conversion_is_idempotent.Goals as goal

pub returns : goal.returns
returns c = λ t z. converted-value t _ (converted_in_range t z)
