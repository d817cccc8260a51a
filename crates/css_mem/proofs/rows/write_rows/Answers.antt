use Rattle.std.proofs.Common.{◌≡◌, ◌+◌, ◌-◌, length, arith}
use Rattle.css_mem.proofs.LiveRows.{one_more, fits_step, fits_size, row_written, left_step}
use Rattle.css_mem.proofs.rows.write_rows.Goals as goal

pub overflow_add-at : goal.overflow_add-at
overflow_add-at c =
    let p = c.args.part in
    let step = fits_step (length c.loop-i.bytes) (p.rows - c.loop-i.i) (p.rows - (c.loop-i.i + 1)) c.loop-i.at p.width p.stride (one_more p.rows c.loop-i.i c.loop-i-test.true) c.loop-i.invariant.fits in
    omega (arith, step.0, c.requires.short, c.loop-i.auto.bytes)

pub loop-i-preserved : goal.loop-i-preserved
loop-i-preserved c =
    let p = c.args.part in
    let rest = p.rows - (c.loop-i.i + 1) in
    let is = one_more p.rows c.loop-i.i c.loop-i-test.true in
    let same : length c.overwrite.new.bytes ≡ length c.loop-i.bytes = c.overwrite.auto.bytes in
    record {
      fits = fits_size (length c.loop-i.bytes) (length c.overwrite.new.bytes) rest (c.loop-i.at + p.stride) p.width p.stride same (fits_step (length c.loop-i.bytes) (p.rows - c.loop-i.i) rest c.loop-i.at p.width p.stride is c.loop-i.invariant.fits).1;
      left = left_step (p.rows - c.loop-i.i) rest p.width c.loop-i.done (length c.args.new.now) is c.loop-i.invariant.left;
      rest = row_written c.loop-i.bytes c.overwrite.new.bytes c.args.new.now _ (p.rows - c.loop-i.i) rest c.loop-i.at p.width p.stride c.loop-i.done is c.overwrite.ensures c.loop-i.invariant.rest;
    }
