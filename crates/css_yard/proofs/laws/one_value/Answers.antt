use Rattle.css_yard.proofs.OneEnd as one
use Rattle.css_yard.proofs.laws.one_value.Goals as goal

pub returns : goal.returns
returns c code limits units submits given version x y are p q = one.one_value code limits units submits are p q
