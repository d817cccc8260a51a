use Rattle.css_yard.proofs.OneEnd.{one_stop_first}
use Rattle.css_yard.proofs.laws.one_first_stop.Goals as goal

pub returns : goal.returns
returns c code limits units submits number number' stop stop' line line' are a b = one_stop_first code limits units submits are number number' stop stop' line line' a b
