use Rattle.css_core.proofs.Verdicts.{same_verdict}
use Rattle.css_core.proofs.laws.one_verdict.Goals as goal

pub returns : goal.returns
returns c start w p fuel other v v' e e' = same_verdict start w p fuel other v v' e e'
