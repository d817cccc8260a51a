use Rattle.css_num.proofs.Congruence.{congruent_out, congruent-converted}
use Rattle.css_num.proofs.laws.conversion_is_modular.Goals as goal

pub returns : goal.returns
returns c = λ t z. congruent_out (congruent-converted t z)
