use Rattle.css_erased_text.proofs.Twice.{twice}
use Rattle.css_erased_text.proofs.laws.erasing_twice_is_once.Goals as goal

pub returns : goal.returns
returns c = twice
