use Rattle.css_parse.proofs.Outcomes.{one_refusal}
use Rattle.css_parse.proofs.laws.one_refusal.Goals as goal

pub returns : goal.returns
returns c = one_refusal
