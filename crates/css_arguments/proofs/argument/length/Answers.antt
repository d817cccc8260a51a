use Rattle.std.proofs.Common.{pos, get_or, subst, rules, arith}
use Rattle.std.proofs.lemmas.Int.{to_z-of_z}
use mir.Syntax.{w64}
use mir.Val.{SFits}
use Rattle.css_arguments.specs.Arguments.{IsTooMuch}
use Rattle.css_arguments.proofs.Measures.{over_at, at_get_or}
use Rattle.css_arguments.proofs.argument.length.Goals as goal

pub returns-in_err-length : goal.returns-in_err-length
returns-in_err-length c =
    let fits : SFits w64 (get_or c.args.dimensions.now c.loop-dimension.dimension-index (pos 0)) = search rules in
    rw c.from_residual.ensures
    (over_at c.args.element c.args.dimensions.now c.loop-dimension.length c.loop-dimension.dimension-index (get_or c.args.dimensions.now c.loop-dimension.dimension-index (pos 0)) c.loop-dimension.invariant
    (at_get_or c.args.dimensions.now c.loop-dimension.dimension-index (pos 0) (omega arith))
    (subst (IsTooMuch c.loop-dimension.length) (to_z-of_z w64 (get_or c.args.dimensions.now c.loop-dimension.dimension-index (pos 0)) fits) c.in_err-length.ensures))
