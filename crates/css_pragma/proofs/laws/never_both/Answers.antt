use Rattle.css_pragma.proofs.Rules.{never_both}
use Rattle.css_pragma.proofs.laws.never_both.Goals as goal

pub returns : goal.returns
returns c = never_both
