use Rattle.css_words.proofs.Saying.{one_saying}
use Rattle.css_words.proofs.laws.one_saying.Goals as goal

pub returns : goal.returns
returns c = one_saying
