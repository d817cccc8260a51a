use Rattle.css_pragma.proofs.Rules.{one_directive}
use Rattle.css_pragma.proofs.laws.one_directive.Goals as goal

pub returns : goal.returns
returns c = one_directive
