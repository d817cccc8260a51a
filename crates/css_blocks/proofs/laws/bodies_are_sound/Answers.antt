use Rattle.css_blocks.proofs.Plans.{plan_of, body_sound}
use Rattle.css_blocks.proofs.laws.bodies_are_sound.Goals as goal

pub returns : goal.returns
returns c = λ code f found. (plan_of code f, body_sound code f found)
