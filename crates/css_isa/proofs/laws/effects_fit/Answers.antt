use Rattle.css_isa.proofs.Fitting.{effect_fits}
use Rattle.css_isa.proofs.laws.effects_fit.Goals as goal

pub returns : goal.returns
returns c base op stack goes finds = effect_fits base op stack goes finds
