use Rattle.css_isa.specs.Machine.{exec}
use Rattle.css_isa.specs.Steps.{step_of}
use Rattle.css_isa.proofs.OneStep.{done_same}
use Rattle.css_isa.proofs.laws.runs_take_steps.Goals as goal

pub returns : goal.returns
returns c w code steps s tape = done_same w (exec w code steps) (step_of code s) tape
