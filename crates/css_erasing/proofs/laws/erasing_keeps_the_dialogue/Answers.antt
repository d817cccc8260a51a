use Rattle.css_erasing.proofs.Programs.{erased_source}
use Rattle.css_erasing.proofs.laws.erasing_keeps_the_dialogue.Goals as goal

pub returns : goal.returns
returns c limits start fuel n p few = erased_source limits start n fuel p few
