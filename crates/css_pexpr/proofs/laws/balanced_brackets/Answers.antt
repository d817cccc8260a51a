use Rattle.css_pexpr.proofs.Balance.{balanced}
use Rattle.css_pexpr.proofs.laws.balanced_brackets.Goals as goal

pub returns : goal.returns
returns c = λ scope k ts e d. balanced d
