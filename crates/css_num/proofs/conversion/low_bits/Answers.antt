use Rattle.std.specs.Int.{w128}
use Rattle.std.proofs.lemmas.Int.{to_z-of_z}
use Rattle.css_num.proofs.Wrapping.{low_bits-modulo}
use Rattle.css_num.proofs.conversion.low_bits.Goals as goal

pub returns : goal.returns
returns c =
    rw (c.cast_unsigned.ensures, to_z-of_z w128 c.args.v c.ranges.v)
    (low_bits-modulo c.args.v c.args.count c.requires c.ranges.v)
