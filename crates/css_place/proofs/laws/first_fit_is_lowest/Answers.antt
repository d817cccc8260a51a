use Rattle.css_place.proofs.Addresses.{first_fit_lowest}
use Rattle.css_place.proofs.laws.first_fit_is_lowest.Goals as goal

pub returns : goal.returns
returns c = first_fit_lowest
