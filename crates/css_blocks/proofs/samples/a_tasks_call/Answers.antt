use Rattle.css_blocks.proofs.Worked.{submitting_code}
use Rattle.css_blocks.proofs.samples.a_tasks_call.Goals as goal

pub returns : goal.returns
returns c = submitting_code
