use Rattle.std.proofs.Common.{◌≡◌, ◌≤◌, arith}
use Rattle.std.proofs.lemmas.Result.{IfOk-weaker}
use Rattle.css_vm.specs.Code.{code_of}
use Rattle.css_vm.specs.States.{depth}
use Rattle.css_vm.proofs.Runs.{went_fits, went_round}
use Rattle.css_vm.proofs.rounds.run_round.Goals as goal

pub settle-requires-clause-fits : goal.settle-requires-clause-fits
settle-requires-clause-fits g c =
    let paused = rw c.in-At.is at c.in_ok-pause.ensures.comes in
    went_fits g.S.Space.reply g.S.Space.learn (code_of c.args.code.now) (paused 0).0 c.requires.fits

pub settle-requires-clause-stacked : goal.settle-requires-clause-stacked
settle-requires-clause-stacked g c =
    let paused = rw c.in-At.is at c.in_ok-pause.ensures.comes in
    (paused 0).1

pub settle-requires-clause-before : goal.settle-requires-clause-before
settle-requires-clause-before g c =
    let paused = rw c.in-At.is at c.in_ok-pause.ensures.comes in
    (paused 0).3

pub settle-requires-clause-pauses : goal.settle-requires-clause-pauses
settle-requires-clause-pauses g c =
    let paused = rw c.in-At.is at c.in_ok-pause.ensures.comes in
    (paused 0).4

pub returns-in-Stopped : goal.returns-in-Stopped
returns-in-Stopped g c =
    let paused = rw c.in-Stopped.is at c.in_ok-pause.ensures.comes in
    paused c.args.units.now

pub returns-in-At : goal.returns-in-At
returns-in-At g c =
    let units = c.args.units.now in
    let paused = rw c.in-At.is at c.in_ok-pause.ensures.comes in
    let went = (paused units).0 in
    let same : depth c.run_to_pause.new.self ≡ depth c.args.activations.now = (paused units).2 in
    let under : depth c.run_to_pause.new.self ≤ depth c.args.activations.now = omega arith in
    IfOk-weaker c.settle.result _ _
    (λ r round. went_round g.S.Space.reply g.S.Space.learn (code_of c.args.code.now) g.S.Space.place r c.settle.new.activations c.settle.new.space c.settle.new.units went under round)
    c.settle.ensures
