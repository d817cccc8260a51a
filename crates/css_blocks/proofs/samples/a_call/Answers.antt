use Rattle.css_blocks.proofs.Worked.{calling_code}
use Rattle.css_blocks.proofs.samples.a_call.Goals as goal

pub returns : goal.returns
returns c = calling_code
