use Rattle.css_judged.proofs.MainTapes.{calls, called_memory, are_of_body}
use Rattle.css_judged.proofs.laws.main_calls.Goals as goal

pub returns-clause-calls : goal.returns-clause-calls
returns-clause-calls c = calls

pub returns-clause-memory : goal.returns-clause-memory
returns-clause-memory c = called_memory

pub returns-clause-of_machine : goal.returns-clause-of_machine
returns-clause-of_machine c = are_of_body
