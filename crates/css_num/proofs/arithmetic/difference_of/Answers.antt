use Rattle.std.proofs.Common.{ap, arith}
use Rattle.std.proofs.lemmas.Int.{ints}
use Rattle.css_num.specs.Conversion.{converted}
use Rattle.css_num.proofs.Ranges.{wide}
use Rattle.css_num.proofs.Results.{read_converted}
use Rattle.css_num.proofs.arithmetic.difference_of.Goals as goal

pub returns : goal.returns
returns c =
    let first = wide c.args.t c.args.a c.requires.left in
    let second = wide c.args.t c.args.b c.requires.right in
    read_converted c.args.t _ _ _ c.convert.ensures.value (ap (converted c.args.t) (omega (arith, ints)))
