use Rattle.std.proofs.Common.{◌≤◌, arith}
use Rattle.std.proofs.lemmas.Result.{IfOk-weaker}
use Rattle.css_isa.specs.Code.{code_of}
use Rattle.css_machine.specs.States.{depth}
use Rattle.css_machine.proofs.Runs.{went_fits, went_round}
use Rattle.css_machine.proofs.rounds.run_round.Goals as goal

pub returns-in-Stopped : goal.returns-in-Stopped
returns-in-Stopped g c =
    let paused = rw c.in-Stopped.is at c.in_ok-pause.ensures in
    paused c.mode-mode.result c.mode-mode.ensures

pub returns-in-Entered : goal.returns-in-Entered
returns-in-Entered g c = rw c.in-Entered.is at c.in_ok-pause.ensures

pub settle-requires-clause-fits : goal.settle-requires-clause-fits
settle-requires-clause-fits g c =
    let paused = rw c.in-At.is at c.in_ok-pause.ensures in
    went_fits g.S.Space.reply g.S.Space.learn (code_of c.args.code.now) paused.0 c.requires.fits

pub settle-requires-clause-stacked : goal.settle-requires-clause-stacked
settle-requires-clause-stacked g c =
    let paused = rw c.in-At.is at c.in_ok-pause.ensures in
    paused.1

pub settle-requires-clause-pauses : goal.settle-requires-clause-pauses
settle-requires-clause-pauses g c =
    let paused = rw c.in-At.is at c.in_ok-pause.ensures in
    paused.4

pub returns-in-At : goal.returns-in-At
returns-in-At g c =
    let paused = rw c.in-At.is at c.in_ok-pause.ensures in
    let same : depth c.run_to_pause.new.self ≤ depth c.args.activations.now = omega (arith, paused.2) in
    IfOk-weaker c.settle.result _ _ (λ r round. went_round g.S.Space.reply g.S.Space.learn (code_of c.args.code.now) g.S.Space.place r c.settle.new.activations c.settle.new.space c.settle.new.units paused.0 paused.3 same round) c.settle.ensures
