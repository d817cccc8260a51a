use Rattle.css_parse.proofs.Outcomes.{never_both}
use Rattle.css_parse.proofs.laws.never_both.Goals as goal

pub returns : goal.returns
returns c = never_both
