use Rattle.css_driver.proofs.OneAnswer.{one_answer_lem}
use Rattle.css_driver.proofs.laws.one_answer.Goals as goal

pub returns : goal.returns
returns c = one_answer_lem c.one_text_answer.ensures
