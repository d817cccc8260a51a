use Rattle.std.proofs.Common.{◌≡◌, ◌+◌, ◌-◌, ℕ, arith}
use Rattle.css_task.specs.Alone.{Outs}
use Rattle.css_history.specs.Histories.{Ended, standing, IsFinished}
use Rattle.css_board.specs.Cells.{IsFinishedCell, IsFinishedWith}
use Rattle.css_board.proofs.Lists.{some_weaker, none_weaker}
use Rattle.css_board.proofs.Cells.{finished_with, unfinished_cell}
use Rattle.css_board.proofs.lookup.outs_of.Goals as goal

pub returns-clause-some : goal.returns-clause-some
returns-clause-some c =
    let k : ℕ = c.args.number - c.args.first in
    let cell = c.cell_at-cell.result in
    let at = c.cell_at-cell.ensures in
    let n_is : c.args.number ≡ c.args.first + k = omega (arith, c.if-number-first.false) in
    some_weaker c.outs_in.result (λ outs. IsFinishedWith c.args.history.now cell outs.now) (λ outs. standing c.args.number c.args.history.now ≡ Ended (Outs outs.now))
    (λ outs h. finished_with c.args.first c.args.history.now c.args.cells.now k c.args.number cell outs.now c.requires at n_is h) c.outs_in.ensures.some

pub returns-clause-none : goal.returns-clause-none
returns-clause-none c =
    let k : ℕ = c.args.number - c.args.first in
    let cell = c.cell_at-cell.result in
    let at = c.cell_at-cell.ensures in
    let n_is : c.args.number ≡ c.args.first + k = omega (arith, c.if-number-first.false) in
    none_weaker c.outs_in.result (¬ IsFinishedCell c.args.history.now cell) (¬ IsFinished c.args.number c.args.history.now)
    (unfinished_cell c.args.first c.args.history.now c.args.cells.now k c.args.number cell c.requires at n_is) c.outs_in.ensures.none
