use Rattle.css_semantics.proofs.ClearTapes.{main_units_within, task_units_within}
use Rattle.css_semantics.proofs.laws.units_are_within.Goals as goal

pub returns-clause-of_main : goal.returns-clause-of_main
returns-clause-of_main c = main_units_within

pub returns-clause-of_task : goal.returns-clause-of_task
returns-clause-of_task c = task_units_within
