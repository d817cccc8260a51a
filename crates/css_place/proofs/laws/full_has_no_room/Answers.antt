use Rattle.css_place.proofs.Addresses.{full_no_room}
use Rattle.css_place.proofs.laws.full_has_no_room.Goals as goal

pub returns : goal.returns
returns c = full_no_room
