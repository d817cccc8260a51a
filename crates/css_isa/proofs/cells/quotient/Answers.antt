use Rattle.std.proofs.Common.{◌∙◌}
use Rattle.css_isa.proofs.Quotients.{wrapped_quotient}
use Rattle.css_isa.proofs.cells.quotient.Goals as goal

pub returns : goal.returns
returns c =
    c.cast_unsigned.ensures ∙ wrapped_quotient c.args.a c.args.b c.cast_signed.result c.cast_signed-2.result c.wrapping_div-quotient.result c.ranges.a.fits c.ranges.b.fits c.cast_signed.ensures c.cast_signed-2.ensures c.wrapping_div-quotient.ensures
