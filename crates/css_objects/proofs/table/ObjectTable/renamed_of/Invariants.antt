use Rattle.std.proofs.Common.{◌≡◌, map, take}
use Rattle.css_arguments.specs.Arguments.{given}
use Rattle.css_objects.specs.Table.{objects}
use Rattle.css_objects.specs.Naming.{renames}
use Rattle.css_objects.proofs.table.ObjectTable.renamed_of.Given as goal

abbrev pub invariant-loop-place : goal.invariant-loop-place
invariant-loop-place g l = l.renamed.items ≡ take l.place (map (renames (objects l.self)) (map given l.arguments))
