use Rattle.css_num.proofs.Values.{representation-complement}
use Rattle.css_num.proofs.laws.complement_inverts_bits.Goals as goal

pub returns : goal.returns
returns c = representation-complement
