use Rattle.css_isa.specs.Code.{code_of}
use Rattle.css_machine.proofs.Rows.{went_none, went_then}
use Rattle.css_machine.proofs.Runs.{went_fits, went_comes}
use Rattle.css_machine.proofs.rounds.run.Goals as goal

pub loop-event-init : goal.loop-event-init
loop-event-init g c = record {
  went = went_none g.S.Space.reply g.S.Space.learn (code_of c.args.code.now) c.args.activations.now c.args.space.now c.args.units.now;
  stacked = c.requires.stacked;
}

pub run_to_entry-requires-clause-fits : goal.run_to_entry-requires-clause-fits
run_to_entry-requires-clause-fits g c = went_fits g.S.Space.reply g.S.Space.learn (code_of c.args.code.now) c.loop-event.invariant.went c.requires.fits

pub returns-in-Some : goal.returns-in-Some
returns-in-Some g c =
    let comes = rw c.in-Some.is at c.in_ok-event.ensures in
    went_comes g.S.Space.reply g.S.Space.learn (code_of c.args.code.now) g.S.Space.place c.in-Some.event c.run_to_entry.new.activations c.run_to_entry.new.space c.run_to_entry.new.units c.loop-event.invariant.went comes

pub loop-event-preserved : goal.loop-event-preserved
loop-event-preserved g c =
    let entered = rw c.in_default.is at c.in_ok-event.ensures in
    record {
      went = went_then g.S.Space.reply g.S.Space.learn (code_of c.args.code.now) c.loop-event.invariant.went entered.0;
      stacked = entered.1;
    }

pub loop-event-smaller : goal.loop-event-smaller
loop-event-smaller g c =
    let entered = rw c.in_default.is at c.in_ok-event.ensures in
    entered.2
