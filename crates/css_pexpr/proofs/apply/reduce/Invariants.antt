use Rattle.std.proofs.Common.{◌≡◌, length}
use Rattle.css_pexpr.specs.Frames.{reduce}
use Rattle.css_pexpr.specs.Shapes.{operand_of}
use Rattle.css_pexpr.specs.Stacks.{stack}
use Rattle.css_pexpr.proofs.apply.reduce.Given as goal

abbrev pub invariant-loop-last : goal.invariant-loop-last
invariant-loop-last l = reduce l.most l.level (stack l.frames) (operand_of l.operand) ≡ reduce l.most l.level (stack l.initial.frames) (operand_of l.initial.operand)

abbrev pub decreases-loop-last : goal.decreases-loop-last
decreases-loop-last l = length (stack l.frames)
