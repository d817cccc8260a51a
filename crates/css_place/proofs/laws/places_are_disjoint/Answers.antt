use Rattle.css_place.proofs.Addresses.{one_place}
use Rattle.css_place.proofs.laws.places_are_disjoint.Goals as goal

pub returns : goal.returns
returns c = one_place
