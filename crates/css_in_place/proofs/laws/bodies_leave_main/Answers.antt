use Rattle.css_in_place.proofs.BodyTapes.{leaves_main}
use Rattle.css_in_place.proofs.laws.bodies_leave_main.Goals as goal

pub returns : goal.returns
returns c = λ start tape asked in_body machine. leaves_main start tape in_body asked machine
