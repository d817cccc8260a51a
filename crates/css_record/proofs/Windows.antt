-- How many bytes a window has.
use Rattle.std.proofs.Common.{◌≡◌, ℕ, zero, suc, ◌+◌, ◌-◌, ◌*◌, ◌^◌, ◌≤◌, arith}
use Rattle.std.proofs.Math.Nat.{mul-le-mul_left, suc-mul}
use Rattle.css_semantics.specs.Tasks.{Window, span, window_length}
use Rattle.css_record.specs.Windows.{IsWindow}

rows_in_span : (rows width stride : ℕ) → 1 ≤ rows → width ≤ stride → rows * width ≤ (rows - 1) * stride + width
rows_in_span zero width stride some apart = absurd (omega arith)
rows_in_span (suc rows) width stride some apart =
    let before : suc rows - 1 ≡ rows = omega arith in
    let whole : suc rows * width ≡ rows * width + width = suc-mul rows width in
    let narrow : rows * width ≤ rows * stride = mul-le-mul_left rows apart in
    rw (before, whole) (omega (arith, narrow))

-- no more than its span
pub length_in_span : (w : Window) → IsWindow w → window_length w ≤ 2 ^ 30
length_in_span w is = omega (arith, rows_in_span w.rows w.width w.stride is.rows is.apart, is.small)
