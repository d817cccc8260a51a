use Rattle.std.proofs.Common.{true, get_or, sym, ◌∙◌}
use Rattle.css_judged.specs.Objects.{as_row}
use Rattle.css_judged.proofs.NearObjects.{nothing, one_marked, row_marked, row_kept}
use Rattle.css_judged.proofs.objects.write_rows.Goals as goal
use Rattle.css_judged.proofs.objects.write_rows.Goals.{then-is_row, else-is_row}

pub loop-o-preserved : goal.loop-o-preserved
loop-o-preserved c =
    let p = get_or c.loop-o.objects c.loop-o.o-index nothing in
    elim c.if-is_row.branch [
      | then-is_row w ↦ w.objects-is ∙ one_marked (as_row c.args.base) c.args.objects.now c.loop-o.objects c.loop-o.o-index nothing (record p { is_written = true }) c.loop-o-test.true c.loop-o.invariant (row_marked c.args.base p (sym c.is_row.ensures ∙ w.if-is_row.true))
      | else-is_row w ↦ w.objects-is ∙ one_marked (as_row c.args.base) c.args.objects.now c.loop-o.objects c.loop-o.o-index nothing p c.loop-o-test.true c.loop-o.invariant (row_kept c.args.base p (sym c.is_row.ensures ∙ w.if-is_row.false))
    ]
