use Rattle.std.proofs.Common.{Err, ap, arith}
use Rattle.std.proofs.lemmas.Result.{err_from_is_err_and}
use Rattle.css_io.proofs.Told.{Gives-nothing, Gives-more, Gives-all}
use Rattle.css_io.proofs.Faults.{Rose-after}
use Rattle.css_io.proofs.reading.read_all.Goals as goal

pub loop-bytes-init : goal.loop-bytes-init
loop-bytes-init g c =
    (omega arith, omega (arith, c.in_ok-piece.ensures), rw c.new-bytes.ensures.items (Gives-nothing (g.I.Source.left c.args.input.now)), omega arith, omega arith)

pub returns-in_err-count-clause-too_long : goal.returns-in_err-count-clause-too_long
returns-in_err-count-clause-too_long g c =
    let p = err_from_is_err_and c.from_residual-in_err-count.result c.from_residual-in_err-count.ensures.1 in
    let too_long = c.in_err-count.ensures.too_long in
    rw (p.1, p.2) (λ is. omega (arith, too_long.0 cc), λ over. ap Err (too_long.1 (omega arith)))

pub returns-in_err-count-clause-failed : goal.returns-in_err-count-clause-failed
returns-in_err-count-clause-failed g c =
    let p = err_from_is_err_and c.from_residual-in_err-count.result c.from_residual-in_err-count.ensures.1 in
    let faults = g.I.Source.faults in
    rw (p.1, p.2) (λ is. Rose-after (faults c.args.input.now) (faults c.loop-bytes.input) (faults c.append_next.new.input) (omega arith) (c.in_err-count.ensures.failed cc))

pub returns-then-count-eq0-clause-ok : goal.returns-then-count-eq0-clause-ok
returns-then-count-eq0-clause-ok g c =
    let left = g.I.Source.left in
    let next = c.in_ok-count.ensures in
    rw next.appends
    (Gives-all (left c.args.input.now) (left c.loop-bytes.input) (left c.append_next.new.input) c.loop-bytes.bytes.items _ c.in_ok-count.count c.if-count-eq0.true c.loop-bytes.invariant.2 (next.end c.if-count-eq0.true) next.gives)

pub loop-bytes-preserved : goal.loop-bytes-preserved
loop-bytes-preserved g c =
    let left = g.I.Source.left in
    let next = c.in_ok-count.ensures in
    let before = c.loop-bytes.invariant in
    let gave = Gives-more (left c.args.input.now) (left c.loop-bytes.input) (left c.append_next.new.input) c.loop-bytes.bytes.items _ before.2 next.gives in
    (omega (arith, next.count, next.limit), before.1, rw next.appends gave, omega (arith, next.count, next.counts), omega arith)
