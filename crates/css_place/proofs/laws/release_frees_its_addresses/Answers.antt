use Rattle.css_place.proofs.Addresses.{free_released, released_free}
use Rattle.css_place.proofs.laws.release_frees_its_addresses.Goals as goal

pub returns : goal.returns
returns c = λ old new s placed removes address.
    (free_released old new s placed removes address, released_free old new s placed removes address)
