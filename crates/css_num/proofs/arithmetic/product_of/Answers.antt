use Rattle.css_num.proofs.Results.{read_converted}
use Rattle.css_num.proofs.Wrapping.{converted-wrapping_mul}
use Rattle.css_num.proofs.arithmetic.product_of.Goals as goal

pub returns : goal.returns
returns c =
    read_converted c.args.t _ _ _ c.convert.ensures.value (converted-wrapping_mul c.args.t c.args.a c.args.b c.ranges.a c.ranges.b)
