use Rattle.std.proofs.Common.{◌≡◌, drop}
use Rattle.css_tree.specs.Shapes as trees
use Rattle.css_types.specs.Types.{starred}
use Rattle.css_type_table.specs.Flat.{ctype}
use Rattle.css_expressions.proofs.type_names.starred.Given as goal

abbrev pub invariant-loop-star : goal.invariant-loop-star
invariant-loop-star l = starred (trees.stars (drop l._star-index l.stars)) (ctype l.table l.t) ≡ starred (trees.stars l.fn.stars) (ctype l.fn.table l.fn.t)
