use Rattle.std.proofs.Common.{refl}
use Rattle.std.specs.Fmt.{digits}
use Rattle.css_core.proofs.rows.stores_into_what_is_read.Goals as goal

pub returns-clause-written : goal.returns-clause-written
unfolding digits
returns-clause-written c = refl

pub returns-clause-once : goal.returns-clause-once
unfolding digits
returns-clause-once c = refl
