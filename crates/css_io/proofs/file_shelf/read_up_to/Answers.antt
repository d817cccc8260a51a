use Rattle.std.proofs.Common.{arith}
use Rattle.std.proofs.lemmas.Grind.{common_steps}
use Rattle.std.proofs.KnownBytes.{Consumes-trans}
use Rattle.css_io.proofs.file_shelf.read_up_to.Goals as goal

pub loop-bytes-preserved : goal.loop-bytes-preserved
loop-bytes-preserved g c =
    let remaining = g.R.Read.remaining in
    let next = c.in_ok-count.ensures in
    let consumed = Consumes-trans (remaining c.args.reader.now) (remaining c.loop-bytes.reader) (remaining c.append_next.new.reader) c.loop-bytes.bytes.items _ c.loop-bytes.invariant.2 next.passes in
    (grind (arith, common_steps, next.count, next.within), c.loop-bytes.invariant.1, rw next.appends consumed)
