use Rattle.css_core.proofs.ErasedVerdicts.{erased_verdict, erased_verdict_by_any}
use Rattle.css_core.proofs.laws.verdict_is_the_erased_programs.Goals as goal

pub returns-clause-by_as_much : goal.returns-clause-by_as_much
returns-clause-by_as_much c limits start fuel enough n p v quiet e few le = erased_verdict limits start n p quiet fuel enough v e few le

pub returns-clause-by_any : goal.returns-clause-by_any
returns-clause-by_any c limits start fuel other n p v quiet e few ends = erased_verdict_by_any limits start n p quiet fuel other v e few ends
