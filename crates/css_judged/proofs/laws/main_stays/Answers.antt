use Rattle.css_judged.proofs.MainTapes.{stays}
use Rattle.css_judged.proofs.laws.main_stays.Goals as goal

pub returns : goal.returns
returns c = stays
