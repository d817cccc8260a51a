use Rattle.std.proofs.Common.{suc, subst}
use Rattle.css_semantics.specs.Verdict.{judged_in}
use Rattle.css_in_place.specs.Waits.{ComesBack, waiting, back}
use Rattle.css_in_place.proofs.AtCall.{runs_alike}
use Rattle.css_in_place.proofs.Callers.{waits_for}
use Rattle.css_in_place.proofs.Records.{as_record}
use Rattle.css_in_place.proofs.laws.calls_in_place.Goals as goal

pub returns : goal.returns
returns c = λ code plans sound limits start tape k arguments line uses stack_place at r of_call a callers place reply owed rest n.
    let w = judged_in limits start in
    let alike = as_record code plans sound limits start tape k arguments line uses stack_place at r of_call (runs_alike code plans sound limits start tape k arguments line uses stack_place at) in
    subst (ComesBack (waiting w code a callers line place k at.routine arguments reply owed rest tape) (back w code a callers place rest) n) (alike.dialogue (suc n))
    (waits_for w code a callers line place k at.routine arguments reply owed rest n tape at.function)
