use Rattle.std.proofs.Common.{[], sym, ap, ◌∙◌}
use Rattle.css_semantics.specs.Flat.{no_globals}
use Rattle.css_semantics.specs.Units.{with_units}
use Rattle.css_vm.specs.Code.{code_of}
use Rattle.css_vm.specs.Machine.{entry_line}
use Rattle.css_driver.proofs.RunParts.{goes_nowhere, goes_further, goes_to_end, ran_whole, fits_begun}
use Rattle.css_driver.proofs.run.run_main.Goals as goal

pub loop-ran-init : goal.loop-ran-init
loop-ran-init g c =
    rw (c.in-Ok-new-2.ensures.state, c.in-Ok.ensures, c.in-Ok-new.ensures) (record {
      due = c.in-Ok-new-2.ensures.due;
      fits = fits_begun (code_of c.args.code.now) c.first_line-line.result c.requires.sound.0 c.requires.sound.1;
      stacked = tt;
      goes_on = goes_nowhere g.O.Sink.written g.O.Sink.faults (code_of c.args.code.now) _ (with_units (no_globals c.args.memory).memory c.args.units) [] c.args.out.now;
    })

pub returns-in-Some : goal.returns-in-Some
returns-in-Some g c =
    let code = code_of c.args.code.now in
    let ends =
    goes_to_end g.O.Sink.written g.O.Sink.faults code c.in-Ok-new-2.machine.state c.loop-ran.machine.state
    (with_units (no_globals c.args.memory).memory c.args.units) (with_units c.loop-ran.space c.loop-ran.units) [] c.loop-ran.pending
    c.args.out.now c.loop-ran.out c.run_on.new.out c.in-Some.ran c.loop-ran.invariant.goes_on c.in-Some.ensures.ends in
    ran_whole g.O.Sink.written g.O.Sink.faults code (no_globals c.args.memory) c.args.units c.first_line-line.result c.args.out.now c.run_on.new.out c.in-Some.ran
    (c.first_line-line.ensures ∙ sym (ap entry_line c.main_of.ensures)) (rw c.in-Ok-new-2.ensures.state at ends)

pub loop-ran-preserved : goal.loop-ran-preserved
loop-ran-preserved g c =
    record {
      due = c.in_default-run_on.ensures.due;
      fits = c.in_default-run_on.ensures.fits;
      stacked = c.in_default-run_on.ensures.stacked;
      goes_on =
          goes_further g.O.Sink.written g.O.Sink.faults (code_of c.args.code.now) c.in-Ok-new-2.machine.state c.loop-ran.machine.state c.run_on.new.machine.state
          (with_units (no_globals c.args.memory).memory c.args.units) (with_units c.loop-ran.space c.loop-ran.units) (with_units c.run_on.new.space c.run_on.new.units)
          [] c.loop-ran.pending c.run_on.new.pending c.args.out.now c.loop-ran.out c.run_on.new.out c.loop-ran.invariant.goes_on c.in_default-run_on.ensures.goes_on;
    }
