use Rattle.std.proofs.Common.{arith}
use Rattle.std.proofs.lemmas.List.{take_rest}
use Rattle.std.proofs.lemmas.Result.{err_from_is_err_and}
use Rattle.css_io.proofs.Told.{Appends-next, AppendsPrefix-from_take}
use Rattle.css_io.proofs.writing.write_all.Goals as goal

pub returns-in_err-written-clause-prefix : goal.returns-in_err-written-clause-prefix
returns-in_err-written-clause-prefix g c =
    let p = err_from_is_err_and c.from_residual.result c.from_residual.ensures.1 in
    rw (p.1, c.in_err-written.ensures.kept) (AppendsPrefix-from_take _ _ _ c.loop-written.written c.loop-written.invariant.1)

pub loop-written-preserved : goal.loop-written-preserved
loop-written-preserved g c =
    let told = g.O.Sink.written in
    let before = c.loop-written in
    let appended = Appends-next (told c.args.out.now) (told before.out) (told c.write.new.self) c.args.bytes.now before.written c.in_ok-written.field-0 before.invariant.1 (rw take_rest at c.in_ok-written.ensures.appends) in
    (omega (arith, c.in_ok-written.ensures.count), appended, omega arith)
