use Rattle.css_erasing.proofs.Verdicts.{erased_verdict, erased_verdict_by_any}
use Rattle.css_erasing.proofs.laws.verdict_is_the_erased_programs.Goals as goal

pub returns-clause-by_as_much : goal.returns-clause-by_as_much
returns-clause-by_as_much c = erased_verdict

pub returns-clause-by_any : goal.returns-clause-by_any
returns-clause-by_any c = erased_verdict_by_any
