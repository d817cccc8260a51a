use Rattle.css_driver.proofs.OneAnswer.{one_text_answer_lem}
use Rattle.css_driver.proofs.laws.one_text_answer.Goals as goal

pub returns : goal.returns
returns c = one_text_answer_lem c.one_reading.ensures.program c.one_reading.ensures.apart c.one_reading.ensures.fault c.more_fuel.ensures c.one_verdict.ensures
