-- Which row of a window is enough to look at.
use Rattle.std.proofs.Common.{◌≡◌, ℕ, ◌+◌, ◌*◌, ◌-◌, ◌<◌, ◌≤◌, ◌^◌, ◌/◌, nat_lt, ◌⊎◌, inl, inr, refl, sym, ◌∙◌, subst, arith}
use Rattle.std.proofs.Math.Nat.{div-mul-le_self}
use Rattle.std.proofs.lemmas.Nat.{mul-le, le-div}
use Rattle.std.proofs.lemmas.Bool.{ltb-true, lt-ltb}
use Rattle.css_semantics.specs.Tasks.{Window}
use Rattle.css_semantics.specs.WindowRanges.{window_meets}
use Rattle.css_semantics.proofs.WindowRanges.{same_test, rows_give, rows_by}
use Rattle.css_record.specs.Windows.{IsWindow}

-- ---- one row is enough

-- a row of a window lies in its span
pub row_within : (w : Window) (row : ℕ) → IsWindow w → row < w.rows → row * w.stride + w.width ≤ 2 ^ 30
row_within w row is below =
    let less = mul-le row w.stride (w.rows - 1) w.stride (omega arith) (omega arith) in
    omega (arith, is.small, less)

-- Of the rows that begin below an address the last one ends behind all others: the window has a byte from one address up to another
-- exactly where that row ends behind the first.
pub last_row_meets : (w : Window) (from to row : ℕ) → IsWindow w → from < to → w.base < to
    → row < w.rows → row * w.stride ≤ to - 1 - w.base → ((i : ℕ) → i < w.rows → i * w.stride ≤ to - 1 - w.base → i ≤ row)
    → nat_lt from (w.base + row * w.stride + w.width) ≡ window_meets w from to
last_row_meets w from to row is some below within begins last =
    same_test (nat_lt from (w.base + row * w.stride + w.width)) (window_meets w from to)
    (λ h. rows_by w.rows w.base w.width w.stride from to row within (omega (arith, begins)) (ltb-true from (w.base + row * w.stride + w.width) h))
    (λ h.
    let found = rows_give w.rows w.base w.width w.stride from to h in
    let before = mul-le found.0 w.stride row w.stride (last found.0 found.1 (omega (arith, found.2))) (omega arith) in
    lt-ltb from (w.base + row * w.stride + w.width) (omega (arith, found.3, before)))

-- ---- what the code computes

-- the last row that begins below an address
pub reach : (w : Window) (from to base stride row : ℕ) → base ≡ w.base → stride ≡ w.stride → IsWindow w → from < to → w.base < to
    → ((row ≡ (to - 1 - base) / stride) × ((to - 1 - base) / stride < w.rows - 1)) ⊎ ((row ≡ w.rows - 1) × (w.rows - 1 ≤ (to - 1 - base) / stride))
    → nat_lt from (w.base + row * w.stride + w.width) ≡ window_meets w from to
reach w from to base stride row same_base same_stride is some below (inl inner) =
    let n : ℕ = to - 1 - w.base in
    let quotient : (to - 1 - base) / stride ≡ n / w.stride = rw (same_base, same_stride) refl in
    let at : row ≡ n / w.stride = inner.0 ∙ quotient in
    let under : n / w.stride < w.rows - 1 = subst (λ (k : ℕ). k < w.rows - 1) quotient inner.1 in
    let begins : row * w.stride ≤ n = subst (λ (k : ℕ). k * w.stride ≤ n) (sym at) (div-mul-le_self n w.stride) in
    last_row_meets w from to row is some below (omega (arith, at, under)) begins
    (λ i within fits. subst (λ (k : ℕ). i ≤ k) (sym at) (le-div i n w.stride (omega (arith, is.width, is.apart)) fits))
reach w from to base stride row same_base same_stride is some below (inr last) =
    let n : ℕ = to - 1 - w.base in
    let quotient : (to - 1 - base) / stride ≡ n / w.stride = rw (same_base, same_stride) refl in
    let over : w.rows - 1 ≤ n / w.stride = subst (λ (k : ℕ). w.rows - 1 ≤ k) quotient last.1 in
    let less = mul-le (w.rows - 1) w.stride (n / w.stride) w.stride over (omega arith) in
    let whole : n / w.stride * w.stride ≤ n = div-mul-le_self n w.stride in
    let begins : row * w.stride ≤ n = subst (λ (k : ℕ). k * w.stride ≤ n) (sym last.0) (omega (arith, less, whole)) in
    last_row_meets w from to row is some below (omega (arith, last.0, is.rows)) begins
    (λ i within fits. omega (arith, last.0, within))
