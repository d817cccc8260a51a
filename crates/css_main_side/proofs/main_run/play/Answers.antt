use Rattle.std.proofs.Common.{◌≡◌, ◌∙◌, [], List, ℕ, length, sym, ap, subst, refl, slice_get}
use Rattle.css_io.specs.Changes.{change}
use Rattle.css_judged.specs.Judged.{main_place}
use Rattle.css_vm.specs.Code.{code_of}
use Rattle.css_vm.specs.Events.{IsStacked}
use Rattle.css_vm.specs.Machine.{State, entry_line}
use Rattle.css_vm.specs.Soundness.{Fits}
use Rattle.css_yard.specs.Yards as yards
use Rattle.css_main_side.specs.Playing.{begins, AreOneByOne, Side, Stands, GoesOn}
use Rattle.css_main_side.specs.Sides.{side}
use Rattle.css_main_side.proofs.OneByOne.{none_yet}
use Rattle.css_main_side.proofs.RunParts.{first, stands_first, fits_begun, goes_nowhere, goes_further, goes_to_end, ran_whole}
use Rattle.css_main_side.proofs.main_run.play.Goals as goal

pub loop-ran-init : goal.loop-ran-init
loop-ran-init g c =
    let limits = c.args.limits.now in
    let code = code_of c.args.code.now in
    let begun = c.in-Ok-new.ensures in
    let is : side c.in-Ok-new.main ≡ first limits (begins limits) code = rw (begun.machine, begun.memory, begun.units, begun.not_started, begun.none_called) refl in
    record {
      stands = subst (λ (s : Side). Stands limits (begins limits) s) (sym is) (stands_first limits (begins limits) code);
      due = begun.due;
      fits = subst (λ (s : State). Fits code s) (sym begun.machine) (fits_begun code (entry_line (slice_get code.functions code.main)) c.requires.sound.0 c.requires.sound.1);
      stacked = subst (λ (s : State). IsStacked code (main_place c.in-Ok-new.main.memory) s) (sym begun.machine) tt;
      ready = record {
        code_is = c.requires.fresh.code_is;
        limits_are = c.requires.fresh.limits_are;
        takes_calls = ap (λ (s : yards.State). s.phase) c.requires.fresh.state_is;
        settled = ap (λ (s : yards.State). s.submits) c.requires.fresh.state_is;
        parts = subst (λ (s : yards.State). AreOneByOne s.parts) (sym c.requires.fresh.state_is) none_yet;
        many = ap (λ (s : yards.State). length s.parts) c.requires.fresh.state_is ∙ sym begun.none_called;
      };
      goes_on =
          subst (λ (b : List ℕ). GoesOn limits (begins limits) code (first limits (begins limits) code) (side c.in-Ok-new.main) [] b (change g.O.Sink.written g.O.Sink.faults c.args.out.now c.args.out.now)) (sym c.in-Ok.ensures)
          (subst (λ (s : Side). GoesOn limits (begins limits) code (first limits (begins limits) code) s [] [] (change g.O.Sink.written g.O.Sink.faults c.args.out.now c.args.out.now)) (sym is)
          (goes_nowhere g.O.Sink.written g.O.Sink.faults limits (begins limits) code (first limits (begins limits) code) [] c.args.out.now));
    }

pub returns-in-Some-clause-verdict : goal.returns-in-Some-clause-verdict
returns-in-Some-clause-verdict g c =
    let limits = c.args.limits.now in
    let code = code_of c.args.code.now in
    ran_whole limits (begins limits) code (change g.O.Sink.written g.O.Sink.faults c.args.out.now c.run_on.new.out) c.in-Some.ran
    (goes_to_end g.O.Sink.written g.O.Sink.faults limits (begins limits) code (first limits (begins limits) code) (side c.loop-ran.main) [] c.loop-ran.pending
    c.args.out.now c.loop-ran.out c.run_on.new.out c.in-Some.ran c.loop-ran.invariant.goes_on c.in-Some.ensures.ends)

pub loop-ran-preserved : goal.loop-ran-preserved
loop-ran-preserved g c =
    record {
      stands = c.in_default-run_on.ensures.stands;
      due = c.in_default-run_on.ensures.due;
      fits = c.in_default-run_on.ensures.fits;
      stacked = c.in_default-run_on.ensures.stacked;
      ready = c.in_default-run_on.ensures.ready;
      goes_on =
          goes_further g.O.Sink.written g.O.Sink.faults c.args.limits.now (begins c.args.limits.now) (code_of c.args.code.now) (first c.args.limits.now (begins c.args.limits.now) (code_of c.args.code.now)) (side c.loop-ran.main) (side c.run_on.new.self)
          [] c.loop-ran.pending c.run_on.new.pending c.args.out.now c.loop-ran.out c.run_on.new.out c.loop-ran.invariant.goes_on c.in_default-run_on.ensures.goes_on;
    }
