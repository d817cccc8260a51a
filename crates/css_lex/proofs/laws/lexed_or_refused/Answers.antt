use Rattle.css_lex.proofs.Readings.{lexed_or_refused}
use Rattle.css_lex.proofs.laws.lexed_or_refused.Goals as goal

pub returns : goal.returns
returns c = lexed_or_refused
