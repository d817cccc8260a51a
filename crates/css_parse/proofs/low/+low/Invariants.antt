use Rattle.std.proofs.Common.{◌≡◌, ◌↔◌, ◌≤◌, ◌+◌, ◌*◌, length}
use Rattle.css_tree.specs.Shapes.{listed}
use Rattle.css_tree.specs.Heights.{height_of_arguments}
use Rattle.css_parse.proofs.low.+low.Given as goal

abbrev pub decreases-is_low : goal.decreases-is_low
decreases-is_low l = 2 * l.most

abbrev pub decreases-are_low : goal.decreases-are_low
decreases-are_low l = 2 * l.most + 1

abbrev pub decreases-all_low : goal.decreases-all_low
decreases-all_low l = 2 * l.most + 1

abbrev pub invariant-all_low-loop-first : goal.invariant-all_low-loop-first
invariant-all_low-loop-first l = (height_of_arguments (listed l.expressions) ≤ l.most) ↔ (height_of_arguments (listed l.rest) ≤ l.most)

abbrev pub decreases-all_low-loop-first : goal.decreases-all_low-loop-first
decreases-all_low-loop-first l = length l.rest
