use Rattle.css_in_place.proofs.Callers.{waits_for}
use Rattle.css_in_place.proofs.laws.callers_wait.Goals as goal

pub returns : goal.returns
returns c = waits_for
