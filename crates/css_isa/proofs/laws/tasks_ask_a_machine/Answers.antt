use Rattle.css_isa.proofs.QuietRuns.{exec_quiet}
use Rattle.css_isa.proofs.laws.tasks_ask_a_machine.Goals as goal

pub returns : goal.returns
returns c w code plans steps s tape sound at quiet = exec_quiet w code plans steps s tape sound at quiet
