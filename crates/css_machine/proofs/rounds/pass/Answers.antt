use Rattle.std.proofs.Common.{arith}
use Rattle.css_isa.specs.declared.code.Op.TheVariants as ops
use Rattle.css_isa.specs.declared.code.Mark.TheVariants as isa_marks
use Rattle.css_isa.specs.Code.{code_of}
use Rattle.css_machine.proofs.Made.{finds_before, makes_start, makes_finish, makes_barrier, makes_wait, makes_test}
use Rattle.css_machine.proofs.rounds.pass.Goals as goal

pub returns-in-Start : goal.returns-in-Start
returns-in-Start c =
    rw c.advance.ensures (makes_start (code_of c.args.code.now) c.args.line c.args.activations.now (rw c.in-Start.is at c.requires.before))

pub returns-in-Finish : goal.returns-in-Finish
returns-in-Finish c =
    rw c.advance-in-Finish.ensures (makes_finish (code_of c.args.code.now) c.args.line c.args.activations.now (rw c.in-Finish.is at c.requires.before))

pub returns-in-Barrier : goal.returns-in-Barrier
returns-in-Barrier c =
    rw c.advance-in-Barrier.ensures (makes_barrier (code_of c.args.code.now) c.args.line c.args.activations.now (rw c.in-Barrier.is at c.requires.before))

pub top-requires : goal.top-requires
top-requires c =
    omega (arith, (finds_before (code_of c.args.code.now) (ops.Mark isa_marks.Wait) c.args.line c.args.activations.now c.requires.fits (rw c.in-Wait.is at c.requires.before)).0)

pub drop_topmost-requires : goal.drop_topmost-requires
drop_topmost-requires c =
    omega (arith, (finds_before (code_of c.args.code.now) (ops.Mark isa_marks.Wait) c.args.line c.args.activations.now c.requires.fits (rw c.in-Wait.is at c.requires.before)).0)

pub returns-in-Wait : goal.returns-in-Wait
returns-in-Wait c =
    rw (c.address-base.ensures, c.advance-in-Wait.ensures, c.drop_topmost.ensures)
    (makes_wait (code_of c.args.code.now) c.args.line c.args.activations.now c.top.result c.top.ensures.0 (rw c.in-Wait.is at c.requires.before) c.top.ensures.1)

pub returns-in_ok-push-in-Started : goal.returns-in_ok-push-in-Started
returns-in_ok-push-in-Started c =
    rw (c.advance-in-Started.ensures, c.in_ok-push-in-Started.ensures)
    (makes_test (code_of c.args.code.now) c.args.line c.args.activations.now (rw c.in-Started.is at c.requires.before))
