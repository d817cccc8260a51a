use Rattle.std.proofs.Common.{◌≡◌, drop}
use Rattle.css_tree.specs.Shapes.{listed_entries}
use Rattle.css_small.specs.Trees.{statements_of}
use Rattle.css_small.proofs.Entries.{on}
use Rattle.css_small.proofs.statements.+statements.Given as goal

abbrev pub invariant-statements_of-loop-entry : goal.invariant-statements_of-loop-entry
invariant-statements_of-loop-entry l = on l.names l.all.items (drop l.entry-index l.entries) ≡ statements_of l.names (listed_entries l.entries)
