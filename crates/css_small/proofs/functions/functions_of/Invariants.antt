use Rattle.std.proofs.Common.{◌≡◌}
use Rattle.css_tree.specs.Syntax as syntax
use Rattle.css_small.proofs.ProgramItems.{on, from}
use Rattle.css_small.proofs.functions.functions_of.Given as goal

abbrev pub invariant-loop-item : goal.invariant-loop-item
invariant-loop-item l = (last : syntax.Item) → on l.all.items (from l.items l.item-index last l.names) ≡ from l.items 0 last l.initial.names
