use Rattle.css_yard.proofs.OneEnd as one
use Rattle.css_yard.proofs.laws.one_end.Goals as goal

pub returns : goal.returns
returns c code limits units submits number a b are x y = one.one_end code limits units submits are x y
