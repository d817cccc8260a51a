use Rattle.css_num.proofs.Kin.{usual_type_comm}
use Rattle.css_num.proofs.laws.usual_type_is_symmetric.Goals as goal

pub returns : goal.returns
returns c = usual_type_comm
