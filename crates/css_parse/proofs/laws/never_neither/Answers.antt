use Rattle.css_parse.proofs.Neither.{never_neither}
use Rattle.css_parse.proofs.laws.never_neither.Goals as goal

pub returns : goal.returns
returns c = never_neither
