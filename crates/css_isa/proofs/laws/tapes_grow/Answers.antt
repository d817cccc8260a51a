use Rattle.css_isa.proofs.Growth.{grows_exec}
use Rattle.css_isa.proofs.laws.tapes_grow.Goals as goal

pub returns : goal.returns
returns c w code steps s tape = grows_exec w code steps s tape
