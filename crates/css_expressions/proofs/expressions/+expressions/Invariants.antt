use Rattle.std.proofs.Common.{◌≡◌, drop}
use Rattle.css_tree.specs.Shapes as trees
use Rattle.css_types.specs.Expressions as rules
use Rattle.css_expressions.specs.Seen.{seen}
use Rattle.css_expressions.specs.Calls.{left_by}
use Rattle.css_expressions.proofs.Arguments.{on}
use Rattle.css_expressions.proofs.expressions.+expressions.Given as goal

abbrev pub invariant-values_in-loop-argument : goal.invariant-values_in-loop-argument
invariant-values_in-loop-argument l =
    on l.table (seen l.table l.scope) l.line l.all.items (left_by l.passes (drop l.argument-index l.arguments))
    ≡ rules.values_in (seen l.table l.scope) l.line (trees.listed (left_by l.fn.behind_first l.arguments))
