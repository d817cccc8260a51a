use Rattle.css_in_place.proofs.Records.{fits_at_call}
use Rattle.css_in_place.proofs.laws.records_fit.Goals as goal

pub returns : goal.returns
returns c = fits_at_call
