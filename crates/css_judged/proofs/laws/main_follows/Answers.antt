use Rattle.css_judged.proofs.MainTapes.{follows}
use Rattle.css_judged.proofs.laws.main_follows.Goals as goal

pub returns : goal.returns
returns c = follows
