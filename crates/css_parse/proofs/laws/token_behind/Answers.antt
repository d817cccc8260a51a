use Rattle.css_parse.proofs.Outcomes.{token_behind}
use Rattle.css_parse.proofs.laws.token_behind.Goals as goal

pub returns : goal.returns
returns c = token_behind
