use Rattle.std.proofs.Common.{ap, sym, ◌∙◌, Some}
use Rattle.css_num.proofs.Results.{read_remainder, unless_zero-nonzero}
use Rattle.css_num.proofs.arithmetic.remainder_of.Goals as goal

pub returns-clause-value : goal.returns-clause-value
returns-clause-value c =
    ap Some (read_remainder c.args.t c.args.a c.args.b c.requires c.ranges.a c.ranges.b)
    ∙ sym (unless_zero-nonzero c.args.b c.if-b-eq0.false)
