use Rattle.css_num.proofs.Values.{least_over_minus_one}
use Rattle.css_num.proofs.laws.least_value_over_minus_one.Goals as goal

pub returns-clause-quotient : goal.returns-clause-quotient
returns-clause-quotient c = λ t sign. (least_over_minus_one t sign).0

pub returns-clause-remainder : goal.returns-clause-remainder
returns-clause-remainder c = λ t sign. (least_over_minus_one t sign).1
