use Rattle.std.proofs.Common.{ap, sym, ◌∙◌, Some}
use Rattle.css_num.specs.Conversion.{converted}
use Rattle.css_num.proofs.Results.{read_converted, read_quotient, unless_zero-nonzero}
use Rattle.css_num.proofs.arithmetic.quotient_of.Goals as goal

pub returns-clause-value : goal.returns-clause-value
returns-clause-value c =
    let whole = read_quotient c.args.t c.args.a c.args.b c.requires c.ranges.a c.ranges.b in
    ap Some (read_converted c.args.t _ _ _ c.convert.ensures.value (ap (converted c.args.t) whole))
    ∙ sym (unless_zero-nonzero c.args.b c.if-b-eq0.false)
