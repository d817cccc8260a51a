use Rattle.css_words.proofs.Readings.{readings_have_bounds}
use Rattle.css_words.proofs.laws.readings_have_bounds.Goals as goal

pub returns : goal.returns
returns c = readings_have_bounds
