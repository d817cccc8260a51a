use Rattle.css_in_place.proofs.AtCall.{runs_alike}
use Rattle.css_in_place.proofs.Records.{as_record}
use Rattle.css_in_place.proofs.laws.records_in_place.Goals as goal

pub returns : goal.returns
returns c = λ code plans sound limits start tape k arguments line uses place at r of_call.
    as_record code plans sound limits start tape k arguments line uses place at r of_call (runs_alike code plans sound limits start tape k arguments line uses place at)
