use Rattle.css_isa.proofs.Growth.{extends_exec}
use Rattle.css_isa.proofs.laws.more_steps.Goals as goal

pub returns : goal.returns
returns c w code steps more s tape = extends_exec w code steps more s tape
