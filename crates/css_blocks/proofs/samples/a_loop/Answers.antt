use Rattle.css_blocks.proofs.Worked.{looping_code}
use Rattle.css_blocks.proofs.samples.a_loop.Goals as goal

pub returns : goal.returns
returns c = looping_code
