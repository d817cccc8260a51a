use Rattle.std.proofs.Common.{◌≡◌}
use Rattle.css_tree.specs.Shapes.{listed_entries}
use Rattle.css_small.specs.Trees.{items_of, behind_all}
use Rattle.css_small.proofs.BodyEntries.{on, from, names_from}
use Rattle.css_small.proofs.bodies.items_of.Given as goal

abbrev pub invariant-loop-entry : goal.invariant-loop-entry
invariant-loop-entry l = record {
  items : on l.all.items (from l.entries l.entry-index l.names) ≡ items_of l.initial.names (listed_entries l.entries);
  behind : names_from l.entries l.entry-index l.names ≡ behind_all l.initial.names (listed_entries l.entries);
}
