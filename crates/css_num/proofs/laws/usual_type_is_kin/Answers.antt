use Rattle.css_num.proofs.Kin.{common_kin}
use Rattle.css_num.proofs.laws.usual_type_is_kin.Goals as goal

pub returns : goal.returns
returns c = λ a b. common_kin _ _
