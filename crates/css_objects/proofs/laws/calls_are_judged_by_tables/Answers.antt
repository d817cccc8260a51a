use Rattle.css_objects.proofs.Joins.{calls_judged, main_judged, stopped_judged}
use Rattle.css_objects.proofs.laws.calls_are_judged_by_tables.Goals as goal

pub returns-clause-checks : goal.returns-clause-checks
returns-clause-checks c = calls_judged

pub returns-clause-calls : goal.returns-clause-calls
returns-clause-calls c = main_judged

pub returns-clause-stopped : goal.returns-clause-stopped
returns-clause-stopped c = stopped_judged
