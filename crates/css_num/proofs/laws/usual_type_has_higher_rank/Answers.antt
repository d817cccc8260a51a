use Rattle.css_num.proofs.Kin.{rank_of-usual_type}
use Rattle.css_num.proofs.laws.usual_type_has_higher_rank.Goals as goal

pub returns : goal.returns
returns c = rank_of-usual_type
