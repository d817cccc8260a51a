use Rattle.std.proofs.Common.{true, false, sym, ◌∙◌, arith}
use Rattle.css_record.specs.Windows.{window}
use Rattle.css_semantics.proofs.WindowRanges.{left_all, left_found, left_next, left_none, met}
use Rattle.css_arguments.proofs.window.rows_share_with.Goals as goal

pub loop-row-init : goal.loop-row-init
loop-row-init c = left_all (window c.args.b.now) (window c.args.a.now)

pub returns-then-meets : goal.returns-then-meets
returns-then-meets c =
    sym (sym c.loop-row.invariant
    ∙ left_found (window c.args.b.now) (window c.args.a.now) c.loop-row.row c.loop-row-test.true
    (met (window c.args.b.now) c.row_base.result c.row_end.result _ _ c.meets.result true c.row_base.ensures.value c.row_end.ensures c.meets.ensures c.if-meets.true))

pub loop-row-preserved : goal.loop-row-preserved
loop-row-preserved c =
    sym (left_next (window c.args.b.now) (window c.args.a.now) c.loop-row.row c.loop-row-test.true
    (met (window c.args.b.now) c.row_base.result c.row_end.result _ _ c.meets.result false c.row_base.ensures.value c.row_end.ensures c.meets.ensures c.if-meets.false))
    ∙ c.loop-row.invariant

pub returns : goal.returns
returns c = sym (left_none (window c.args.b.now) (window c.args.a.now) c.loop-row.row (omega arith)) ∙ c.loop-row.invariant
