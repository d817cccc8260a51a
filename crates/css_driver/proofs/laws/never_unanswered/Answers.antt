use Rattle.css_driver.proofs.Unanswered.{served_answered, asked_answered}
use Rattle.css_driver.proofs.laws.never_unanswered.Goals as goal

pub returns-clause-served : goal.returns-clause-served
returns-clause-served c =
    served_answered c.never_neither.ensures c.programs_have_answers.ensures.check c.programs_have_answers.ensures.erased c.programs_have_answers.ensures.run

pub returns-clause-asked : goal.returns-clause-asked
returns-clause-asked c =
    asked_answered
    (served_answered c.never_neither.ensures c.programs_have_answers.ensures.check c.programs_have_answers.ensures.erased c.programs_have_answers.ensures.run)
