use Rattle.css_place.proofs.Others.{out_or_added, joined}
use Rattle.css_place.proofs.laws.place_joins_those_out.Goals as goal

pub returns : goal.returns
returns c = λ old new s adds t. (out_or_added old new s t adds, joined old new s t adds)
