use Rattle.css_objects.specs.Table.{all_entries}
use Rattle.css_objects.specs.Naming.{given_by}
use Rattle.css_objects.proofs.Giving.{ReadTo}
use Rattle.css_objects.proofs.table.ObjectTable.reads_of.Given as goal

abbrev pub invariant-loop-place : goal.invariant-loop-place
invariant-loop-place g l = ReadTo (all_entries l.self) (given_by l.windows l.arguments l.snapshots) l.place l.versions.items
