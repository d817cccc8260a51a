use Rattle.css_semantics.specs.Units.{with_units}
use Rattle.css_vm.specs.Code.{code_of}
use Rattle.css_main_side.specs.declared.ran.Ran.TheVariants.{NoMemory}
use Rattle.css_driver.proofs.RunParts.{goes_nowhere, goes_further, goes_to_end, gives_up}
use Rattle.css_driver.proofs.run.run_on.Goals as goal

pub loop-init : goal.loop-init
loop-init g c = record {
  due = c.requires.due;
  fits = c.requires.fits;
  stacked = c.requires.stacked;
  goes_on = goes_nowhere g.O.Sink.written g.O.Sink.faults (code_of c.args.code.now) c.args.machine.now.state (with_units c.args.space.now c.args.units.now) c.args.pending.now c.args.out.now;
}

pub returns-in-Some-clause-ends : goal.returns-in-Some-clause-ends
returns-in-Some-clause-ends g c =
    goes_to_end g.O.Sink.written g.O.Sink.faults (code_of c.args.code.now) c.args.machine.now.state c.loop.machine.state
    (with_units c.args.space.now c.args.units.now) (with_units c.loop.space c.loop.units) c.args.pending.now c.loop.pending
    c.args.out.now c.loop.out c.turn.new.out c.in-Some.ran c.loop.invariant.goes_on c.in-Some.ensures.ends

pub returns-then-units-before-clause-goes_on : goal.returns-then-units-before-clause-goes_on
returns-then-units-before-clause-goes_on g c =
    goes_further g.O.Sink.written g.O.Sink.faults (code_of c.args.code.now) c.args.machine.now.state c.loop.machine.state c.turn.new.machine.state
    (with_units c.args.space.now c.args.units.now) (with_units c.loop.space c.loop.units) (with_units c.turn.new.space c.turn.new.units)
    c.args.pending.now c.loop.pending c.turn.new.pending c.args.out.now c.loop.out c.turn.new.out c.loop.invariant.goes_on c.in_default.ensures.goes_on

pub loop-preserved : goal.loop-preserved
loop-preserved g c = record {
  due = c.in_default.ensures.due;
  fits = c.in_default.ensures.fits;
  stacked = c.in_default.ensures.stacked;
  goes_on =
      goes_further g.O.Sink.written g.O.Sink.faults (code_of c.args.code.now) c.args.machine.now.state c.loop.machine.state c.turn.new.machine.state
      (with_units c.args.space.now c.args.units.now) (with_units c.loop.space c.loop.units) (with_units c.turn.new.space c.turn.new.units)
      c.args.pending.now c.loop.pending c.turn.new.pending c.args.out.now c.loop.out c.turn.new.out c.loop.invariant.goes_on c.in_default.ensures.goes_on;
}

pub returns-clause-ends : goal.returns-clause-ends
returns-clause-ends g c =
    goes_to_end g.O.Sink.written g.O.Sink.faults (code_of c.args.code.now) c.args.machine.now.state c.loop.machine.state
    (with_units c.args.space.now c.args.units.now) (with_units c.loop.space c.loop.units) c.args.pending.now c.loop.pending
    c.args.out.now c.loop.out c.loop.out NoMemory c.loop.invariant.goes_on
    (gives_up g.O.Sink.written g.O.Sink.faults (code_of c.args.code.now) c.requires.no_marks c.loop.machine.state (with_units c.loop.space c.loop.units) c.loop.pending c.loop.out)
