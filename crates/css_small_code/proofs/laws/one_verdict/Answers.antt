use Rattle.css_small_code.proofs.Verdicts.{same_verdict}
use Rattle.css_small_code.proofs.laws.one_verdict.Goals as goal

pub returns : goal.returns
returns c start w p = same_verdict start w p
