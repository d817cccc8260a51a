use Rattle.std.proofs.Common.{get_or}
use Rattle.std.proofs.lemmas.Option.{slice_get-get_or}
use Rattle.css_board.proofs.Jobs.{next_draft}
use Rattle.css_board.proofs.bundle.jobs_of.Goals as goal

pub loop-number-preserved : goal.loop-number-preserved
loop-number-preserved c =
    let pushed = c.in_ok-push.ensures {u = tt} in
    let k = c.loop-number.number-index in
    rw pushed.items (next_draft c.args.history.now c.args.numbers.now c.loop-number.jobs.items k (get_or c.args.numbers.now k 0) c.in_ok-job.job (slice_get-get_or c.args.numbers.now k 0 c.loop-number-test.true) c.loop-number.invariant (c.in_ok-job.ensures {u = tt}))
