use Rattle.css_isa.proofs.NeverStuck.{never_stuck}
use Rattle.css_isa.proofs.laws.sound_code_is_never_stuck.Goals as goal

pub returns : goal.returns
returns c w code steps s tape after fits = never_stuck w code steps s tape after fits
