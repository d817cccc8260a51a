use Rattle.css_place.proofs.Addresses.{room_released}
use Rattle.css_place.proofs.laws.release_makes_room.Goals as goal

pub returns : goal.returns
returns c = room_released
