use Rattle.css_isa.proofs.Onward.{step_onward}
use Rattle.css_isa.proofs.laws.sound_steps_lead_onward.Goals as goal

pub returns : goal.returns
returns c code plans s steps sound at = step_onward code plans sound s steps at
