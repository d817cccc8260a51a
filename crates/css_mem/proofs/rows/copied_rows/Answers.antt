use Rattle.std.proofs.Common.{◌+◌, ◌-◌, length}
use Rattle.css_mem.proofs.LiveRows.{one_more, fits_step, row_copied}
use Rattle.css_mem.proofs.rows.copied_rows.Goals as goal

pub loop-row-preserved : goal.loop-row-preserved
loop-row-preserved c =
    let p = c.args.part in
    let rest = p.rows - (c.loop-row.row + 1) in
    let is = one_more p.rows c.loop-row.row c.loop-row-test.true in
    record {
      fits = (fits_step (length c.args.bytes.now) (p.rows - c.loop-row.row) rest c.loop-row.at p.width p.stride is c.loop-row.invariant.fits).1;
      rest = row_copied c.loop-row.copied.items c.extend_from_slice.new.self.items c.args.bytes.now _ (p.rows - c.loop-row.row) rest c.loop-row.at p.width p.stride is c.in_ok-extend_from_slice.ensures.items c.loop-row.invariant.rest;
    }
