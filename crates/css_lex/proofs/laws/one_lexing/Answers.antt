use Rattle.css_lex.proofs.Readings.{one_spelling, one_refusal, not_both}
use Rattle.css_lex.proofs.laws.one_lexing.Goals as goal

pub returns-clause-tokens : goal.returns-clause-tokens
returns-clause-tokens c = one_spelling

pub returns-clause-faults : goal.returns-clause-faults
returns-clause-faults c = one_refusal

pub returns-clause-apart : goal.returns-clause-apart
returns-clause-apart c = not_both
