use Rattle.css_blocks.proofs.Worked.{choosing_code}
use Rattle.css_blocks.proofs.samples.a_choice.Goals as goal

pub returns : goal.returns
returns c = choosing_code
