use Rattle.std.proofs.Common.{zero-add, arith}
use Rattle.std.proofs.lemmas.Grind.{common_steps}
use Rattle.css_isa.proofs.Bytes.{spliced}
use Rattle.css_isa.proofs.big_endian.overwrite.Goals as goal

pub returns : goal.returns
returns c =
    let written = spliced 0 c.args.bytes.now c.args.index c.args.new.now c.requires in
    rw (rw (zero-add c.args.index) at written) (grind (arith, common_steps))
