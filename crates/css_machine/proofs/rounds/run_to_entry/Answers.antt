use Rattle.std.proofs.Common.{arith}
use Rattle.css_isa.specs.Code.{code_of}
use Rattle.css_machine.proofs.Rows.{went_none, went_then}
use Rattle.css_machine.proofs.Runs.{went_fits, went_comes}
use Rattle.css_machine.proofs.rounds.run_to_entry.Goals as goal

pub loop-round-init : goal.loop-round-init
loop-round-init g c = record {
  went = went_none g.S.Space.reply g.S.Space.learn (code_of c.args.code.now) c.args.activations.now c.args.space.now c.args.units.now;
  stacked = c.requires.stacked;
  units = omega arith;
}

pub run_round-requires-clause-fits : goal.run_round-requires-clause-fits
run_round-requires-clause-fits g c = went_fits g.S.Space.reply g.S.Space.learn (code_of c.args.code.now) c.loop-round.invariant.went c.requires.fits

pub returns-in-Enters : goal.returns-in-Enters
returns-in-Enters g c =
    let entered = rw c.in-Enters.is at c.in_ok-round.ensures in (
      went_then g.S.Space.reply g.S.Space.learn (code_of c.args.code.now) c.loop-round.invariant.went entered.0,
      entered.1,
      omega (arith, entered.2, c.loop-round.invariant.units),
    )

pub loop-round-preserved : goal.loop-round-preserved
loop-round-preserved g c =
    let returned = rw c.in-Returns.is at c.in_ok-round.ensures in
    record {
      went = went_then g.S.Space.reply g.S.Space.learn (code_of c.args.code.now) c.loop-round.invariant.went returned.0;
      stacked = returned.1;
      units = omega (arith, returned.2, c.loop-round.invariant.units);
    }

pub loop-round-smaller : goal.loop-round-smaller
loop-round-smaller g c =
    let returned = rw c.in-Returns.is at c.in_ok-round.ensures in
    returned.3

pub returns-in-Makes : goal.returns-in-Makes
returns-in-Makes g c =
    let comes = rw c.in-Makes.is at c.in_ok-round.ensures in
    went_comes g.S.Space.reply g.S.Space.learn (code_of c.args.code.now) g.S.Space.place c.in-Makes.event c.run_round.new.activations c.run_round.new.space c.run_round.new.units c.loop-round.invariant.went comes
