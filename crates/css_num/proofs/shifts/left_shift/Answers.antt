use Rattle.std.proofs.Common.{ap, ◌∙◌, ◌^◌, ℕ, pos, ◌*ℤ◌}
use Rattle.std.specs.Int.{w128}
use Rattle.std.proofs.lemmas.Int.{to_z-of_z}
use Rattle.css_num.specs.Conversion.{converted}
use Rattle.css_num.specs.Operators.{count_of}
use Rattle.css_num.proofs.Results.{read_converted}
use Rattle.css_num.proofs.Wrapping.{converted-shl}
use Rattle.css_num.proofs.shifts.left_shift.Goals as goal

pub returns : goal.returns
returns c =
    let count = c.shift_count.ensures.value ∙ ap (count_of c.args.t) (to_z-of_z w128 c.args.b c.ranges.b) in
    read_converted c.args.t _ _ _ c.convert.ensures.value
    (converted-shl c.args.t c.args.a c.shift_count.result c.ranges.a ∙ ap (λ (k : ℕ). converted c.args.t (c.args.a *ℤ pos (2 ^ k))) count)
