use Rattle.std.proofs.Common.{refl}
use Rattle.std.specs.Fmt.{digits}
use Rattle.css_core.proofs.rows.write_after_read.Goals as goal

pub returns-clause-written : goal.returns-clause-written
unfolding digits
returns-clause-written c = refl
