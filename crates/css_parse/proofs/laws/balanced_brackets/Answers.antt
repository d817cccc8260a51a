use Rattle.css_parse.proofs.Balance.{program_balanced}
use Rattle.css_parse.proofs.laws.balanced_brackets.Goals as goal

pub returns : goal.returns
returns c = program_balanced c.balanced_brackets.ensures
