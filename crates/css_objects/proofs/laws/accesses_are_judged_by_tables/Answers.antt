use Rattle.css_objects.proofs.Joins.{accesses_alike}
use Rattle.css_objects.proofs.laws.accesses_are_judged_by_tables.Goals as goal

pub returns : goal.returns
returns c = accesses_alike
