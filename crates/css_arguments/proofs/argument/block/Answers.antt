use Rattle.std.proofs.Common.{ℤ, ◌≤ℤ◌, subst, ap}
use Rattle.std.proofs.lemmas.Int.{to_z-of_z}
use mir.Syntax.{w64}
use mir.Val.{of_z}
use Rattle.css_arguments.specs.Arguments.{IsTooMuch, IsProduct}
use Rattle.css_arguments.proofs.Measures.{in_order_by, bad_rows, bad_stride, joined_rows}
use Rattle.css_arguments.proofs.argument.block.Goals as goal

pub returns-in_err-count : goal.returns-in_err-count
returns-in_err-count c =
    rw c.from_residual-in_err-count.ensures
    (bad_rows c.args.base c.args.element c.requires c.args.rows c.args.width c.args.stride (subst (IsTooMuch 1) (to_z-of_z w64 c.args.rows c.ranges.rows) c.in_err-count.ensures))

pub returns-in_err-step : goal.returns-in_err-step
returns-in_err-step c =
    rw c.from_residual-in_err-step.ensures
    (bad_stride c.args.base c.args.element c.requires c.args.rows c.args.width c.args.stride (λ e. c.if-rows-eq1.false (ap (of_z w64) e))
    (subst (IsTooMuch c.args.element) (to_z-of_z w64 c.args.stride c.ranges.stride) c.in_err-step.ensures))

pub returns-then-row-step : goal.returns-then-row-step
returns-then-row-step c =
    let of_rows = to_z-of_z w64 c.args.rows c.ranges.rows in
    let of_width = to_z-of_z w64 c.args.width c.ranges.width in
    let of_stride = to_z-of_z w64 c.args.stride c.ranges.stride in
    let order : c.args.width ≤ℤ c.args.stride = in_order_by c.args.stride c.args.width (rw (of_stride, of_width) at c.if-stride-width.false) in
    let count = subst (λ (d : ℤ). IsProduct 1 d c.in_ok-count.count) of_rows c.in_ok-count.ensures in
    joined_rows c.args.base c.args.element c.requires c.args.rows c.args.width c.args.stride c.in_ok-row.row c.in_ok-step.step c.in_ok-length.length
    count.dimension order
    (subst (λ (d : ℤ). IsProduct c.args.element d c.in_ok-row.row) of_width c.in_ok-row.ensures)
    (subst (λ (d : ℤ). IsProduct c.args.element d c.in_ok-step.step) of_stride c.in_ok-step.ensures)
    c.if-row-step.true
    (subst (λ (d : ℤ). IsProduct c.in_ok-row.row d c.in_ok-length.length) of_rows c.in_ok-length.ensures)
    c.plain-then-row-step.result c.plain-then-row-step.ensures.value c.plain-then-row-step.ensures.is_window
