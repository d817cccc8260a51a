use Rattle.css_memory.proofs.Untouched.{untouched}
use Rattle.css_memory.proofs.laws.untouched_bytes_meet_nothing.Goals as goal

pub returns : goal.returns
returns c = untouched
