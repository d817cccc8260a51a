use Rattle.std.proofs.Common.{◌≡◌, ◌+◌, ◌-◌, ◌*◌, length, subst, arith}
use Rattle.css_memory.specs.Pages.{RowsEnd}
use Rattle.css_memory.proofs.RowSteps.{one_more, ends_step, between_step}
use Rattle.css_memory.proofs.pages.remove_window.Goals as goal

pub remove_row-requires-clause-enough : goal.remove_row-requires-clause-enough
remove_row-requires-clause-enough c = λ page below.
    let p = c.args.part in
    let l = c.loop-row in
    let step = between_step (p.rows - l.row) (p.rows - (l.row + 1)) l.at p.width p.stride (4096 * page) (4096 * page + 4096) (one_more p.rows l.row c.loop-row-test.true) in
    omega (arith, step, l.invariant.bytes page below, c.requires.enough page (omega arith))

pub loop-row-preserved : goal.loop-row-preserved
loop-row-preserved c =
    let p = c.args.part in
    let l = c.loop-row in
    let rest = p.rows - (l.row + 1) in
    let is = one_more p.rows l.row c.loop-row-test.true in
    let same : length c.remove_row.new.counts ≡ length l.counts = c.remove_row.auto.counts in
    let size : 4096 * length l.counts ≡ 4096 * length c.remove_row.new.counts = omega (arith, same) in
    record {
      within = subst (λ n. RowsEnd n rest (l.at + p.stride) p.width p.stride) size (ends_step (4096 * length l.counts) (p.rows - l.row) rest l.at p.width p.stride is l.invariant.within).1;
      bytes = λ k below.
          let step = between_step (p.rows - l.row) rest l.at p.width p.stride (4096 * k) (4096 * k + 4096) is in
          omega (arith, step, l.invariant.bytes k (omega (arith, same)), c.remove_row.ensures k (omega (arith, same)));
    }
