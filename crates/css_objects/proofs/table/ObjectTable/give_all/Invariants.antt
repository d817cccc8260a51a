use Rattle.std.proofs.Common.{◌≡◌, drop}
use Rattle.std.specs.Vec.Iter.{into_iter_items}
use Rattle.css_objects.specs.Table.{all_entries}
use Rattle.css_objects.specs.Naming.{given_by}
use Rattle.css_objects.proofs.Giving.{GivenTo}
use Rattle.css_objects.proofs.table.ObjectTable.give_all.Given as goal

abbrev pub invariant-loop-place : goal.invariant-loop-place
invariant-loop-place g l = record {
  entered : GivenTo l.number l.windows (given_by l.windows l.arguments l.fn.snapshots.items) (all_entries l.fn.self) l.place l.out (all_entries l.self);
  rest : into_iter_items l.snapshots ≡ drop l.place l.fn.snapshots.items;
}
