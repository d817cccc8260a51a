use Rattle.css_pragma.proofs.Rules.{one_refusal}
use Rattle.css_pragma.proofs.laws.one_refusal.Goals as goal

pub returns : goal.returns
returns c = one_refusal
