use Rattle.css_place.proofs.Others.{still_out, not_out_before, left_out}
use Rattle.css_place.proofs.laws.release_leaves_the_others.Goals as goal

pub returns : goal.returns
returns c = λ old new s placed removes t. (
  λ is. (still_out new old s t removes is, not_out_before new old s t placed removes is),
  λ (is, other). left_out old new s t removes is other,
)
