use Rattle.css_driver.proofs.OneAnswer.{check_has_answer, erased_has_answer, run_has_answer}
use Rattle.css_driver.proofs.laws.programs_have_answers.Goals as goal

pub returns-clause-check : goal.returns-clause-check
returns-clause-check c = check_has_answer

pub returns-clause-erased : goal.returns-clause-erased
returns-clause-erased c = λ request text p. erased_has_answer request text p c.enough_fuel.ensures c.numbers_fit.ensures

pub returns-clause-run : goal.returns-clause-run
returns-clause-run c = λ request text p. run_has_answer request text p c.program_has_verdict.ensures c.numbers_fit.ensures
