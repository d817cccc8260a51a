use Rattle.css_blocks.proofs.Programs.{behaves}
use Rattle.css_blocks.proofs.laws.code_has_the_dialogue.Goals as goal

pub returns : goal.returns
returns c = behaves
