use Rattle.css_unmarking.proofs.OthersAccepted.{others_accepted}
use Rattle.css_unmarking.proofs.laws.others_spell_the_unmarked.Goals as goal

pub returns : goal.returns
returns c = others_accepted
