use Rattle.std.proofs.Common.{◌≡◌, drop}
use Rattle.css_small.specs.Tree.{listed}
use Rattle.css_small_code.specs.Lines.{line_in_all}
use Rattle.css_small_code.proofs.entry.+lines.Given as goal

abbrev pub invariant-first_line-loop-tree : goal.invariant-first_line-loop-tree
invariant-first_line-loop-tree l = line_in_all (listed (drop l.tree-index l.trees)) ≡ line_in_all (listed l.trees)
