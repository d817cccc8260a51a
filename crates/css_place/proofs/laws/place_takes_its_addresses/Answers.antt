use Rattle.css_place.proofs.Addresses.{free_before, free_after}
use Rattle.css_place.proofs.laws.place_takes_its_addresses.Goals as goal

pub returns : goal.returns
returns c = λ old new s adds address. (free_before old new s adds address, free_after old new s adds address)
