use Rattle.css_semantics.proofs.ClearTapes.{pending_apart}
use Rattle.css_semantics.proofs.laws.pending_share_no_byte.Goals as goal

pub returns : goal.returns
returns c = pending_apart
