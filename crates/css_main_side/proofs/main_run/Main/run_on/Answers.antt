use Rattle.css_vm.specs.Code.{code_of}
use Rattle.css_main_side.specs.Sides.{side}
use Rattle.css_main_side.specs.declared.ran.Ran.TheVariants.{NoMemory}
use Rattle.css_main_side.proofs.RunParts.{goes_nowhere, goes_further, goes_to_end, gives_up}
use Rattle.css_main_side.specs.Playing.{begins}
use Rattle.css_main_side.proofs.main_run.Main.run_on.Goals as goal

pub loop-init : goal.loop-init
loop-init g c = record {
  stands = c.requires.stands;
  due = c.requires.due;
  fits = c.requires.fits;
  stacked = c.requires.stacked;
  ready = c.requires.ready;
  goes_on = goes_nowhere g.O.Sink.written g.O.Sink.faults c.args.limits.now (begins c.args.limits.now) (code_of c.args.code.now) (side c.args.self.now) c.args.pending.now c.args.out.now;
}

pub returns-in-Some-clause-ends : goal.returns-in-Some-clause-ends
returns-in-Some-clause-ends g c =
    goes_to_end g.O.Sink.written g.O.Sink.faults c.args.limits.now (begins c.args.limits.now) (code_of c.args.code.now) (side c.args.self.now) (side c.loop.self)
    c.args.pending.now c.loop.pending c.args.out.now c.loop.out c.turn.new.out c.in-Some.ran c.loop.invariant.goes_on c.in-Some.ensures.ends

pub loop-preserved : goal.loop-preserved
loop-preserved g c = record {
  stands = c.in_default.ensures.stands;
  due = c.in_default.ensures.due;
  fits = c.in_default.ensures.fits;
  stacked = c.in_default.ensures.stacked;
  ready = c.in_default.ensures.ready;
  goes_on =
      goes_further g.O.Sink.written g.O.Sink.faults c.args.limits.now (begins c.args.limits.now) (code_of c.args.code.now) (side c.args.self.now) (side c.loop.self) (side c.turn.new.self)
      c.args.pending.now c.loop.pending c.turn.new.pending c.args.out.now c.loop.out c.turn.new.out c.loop.invariant.goes_on c.in_default.ensures.goes_on;
}

pub returns-clause-ends : goal.returns-clause-ends
returns-clause-ends g c =
    goes_to_end g.O.Sink.written g.O.Sink.faults c.args.limits.now (begins c.args.limits.now) (code_of c.args.code.now) (side c.args.self.now) (side c.loop.self)
    c.args.pending.now c.loop.pending c.args.out.now c.loop.out c.loop.out NoMemory c.loop.invariant.goes_on
    (gives_up g.O.Sink.written g.O.Sink.faults c.args.limits.now (begins c.args.limits.now) (code_of c.args.code.now) (side c.loop.self) c.loop.pending c.loop.out)

pub returns-then-self-before-clause-goes_on : goal.returns-then-self-before-clause-goes_on
returns-then-self-before-clause-goes_on g c =
    goes_further g.O.Sink.written g.O.Sink.faults c.args.limits.now (begins c.args.limits.now) (code_of c.args.code.now) (side c.args.self.now) (side c.loop.self) (side c.turn.new.self)
    c.args.pending.now c.loop.pending c.turn.new.pending c.args.out.now c.loop.out c.turn.new.out c.loop.invariant.goes_on c.in_default.ensures.goes_on
