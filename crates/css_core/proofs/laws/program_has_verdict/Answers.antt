use Rattle.css_core.proofs.Verdicts.{some_verdict}
use Rattle.css_core.proofs.laws.program_has_verdict.Goals as goal

pub returns : goal.returns
returns c limits start p = some_verdict limits start p
