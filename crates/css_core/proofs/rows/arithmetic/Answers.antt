use Rattle.std.proofs.Common.{refl}
use Rattle.std.specs.Fmt.{digits}
use Rattle.css_core.proofs.rows.arithmetic.Goals as goal

pub returns : goal.returns
unfolding digits
returns c = refl
