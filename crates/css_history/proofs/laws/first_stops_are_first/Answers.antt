use Rattle.css_history.proofs.Values.{first_stops}
use Rattle.css_history.proofs.laws.first_stops_are_first.Goals as goal

pub returns : goal.returns
returns c = λ b. first_stops b
