use Rattle.css_in_place.proofs.AtCall.{runs_alike}
use Rattle.css_in_place.proofs.laws.body_in_place.Goals as goal

pub returns : goal.returns
returns c = runs_alike
