use Rattle.std.proofs.lemmas.Option.{slice_get-get_or}
use Rattle.css_board.proofs.Jobs.{next_input}
use Rattle.css_board.proofs.bundle.inputs_of.Goals as goal

pub loop-version-preserved : goal.loop-version-preserved
loop-version-preserved c =
    let pushed = c.in_ok-push.ensures {u = tt} in
    let k = c.loop-version.version-index in
    rw pushed.items (next_input c.args.history.now c.args.given.now c.args.versions.now c.loop-version.inputs.items k _ c.in_ok-input.input (slice_get-get_or c.args.versions.now k _ c.loop-version-test.true) c.loop-version.invariant (c.in_ok-input.ensures {u = tt}))
