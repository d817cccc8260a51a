use Rattle.std.proofs.Common.{refl}
use Rattle.std.specs.Fmt.{digits}
use Rattle.css_core.proofs.rows.pending_objects.Goals as goal

pub returns-clause-waited : goal.returns-clause-waited
unfolding digits
returns-clause-waited c = refl

pub returns-clause-only_read : goal.returns-clause-only_read
unfolding digits
returns-clause-only_read c = refl
