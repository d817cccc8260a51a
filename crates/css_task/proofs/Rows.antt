-- Rows of windows: which one an access is in, and the addresses of their bytes.
use Rattle.std.proofs.Common.{◌≡◌, ℕ, zero, suc, ◌+◌, ◌-◌, ◌*◌, ◌/◌, ◌%◌, ◌<◌, ◌≤◌, Bool, true, false, ◌&&◌, ◌||◌, nat_le, nat_lt, List, [], ◌∷◌, ◌++◌, length, slice_get, Some, inl, inr, zero-add, refl, ap, sym, ◌∙◌, arith}
use Rattle.std.proofs.lemmas.Bool.{and_parts, leb-true, ltb-true, le-leb, lt-ltb, cases_lt}
use Rattle.std.proofs.lemmas.Nat.{div-mul-add, mod-mul-add, div-add-mod'}
use Rattle.std.proofs.lemmas.List.{length-append}
use Rattle.css_semantics.specs.Tasks.{Window, rows_have, has_byte}
use Rattle.css_semantics.specs.Memory.{is_between}
use Rattle.css_semantics.specs.Rules.{is_in_row, is_in_window}
use Rattle.css_record.specs.Windows.{IsWindow}
use Rattle.css_task.specs.Cells.{run, rows_addresses, window_addresses}

or_true : (b : Bool) → (b || true) ≡ true
or_true true = refl
or_true false = refl

-- ---- accesses

-- an access that is in one row
pub in_row : (rows base width stride address size row column : ℕ) → row < rows → address ≡ base + (row * stride + column) → column + size ≤ width → is_in_row rows base width stride address size ≡ true
in_row zero base width stride address size row column below is within = absurd (omega (arith, below))
in_row (suc rows) base width stride address size zero column below is within =
    let from : base ≤ address = omega (arith, is) in
    let to : address + size ≤ base + width = omega (arith, is, within) in
    rw (le-leb base address from, le-leb (address + size) (base + width) to)
in_row (suc rows) base width stride address size (suc row) column below is within =
    let next : address ≡ base + stride + (row * stride + column) = omega (arith, is) in
    rw (in_row rows (base + stride) width stride address size row column (omega (arith, below)) next within)
    (or_true (nat_le base address && nat_le (address + size) (base + width)))

-- where an access is in one row, it is in the one of its distance
pub record InRow (rows base width stride address size : ℕ) : Type 0 where
  pub row : ℕ
  pub column : ℕ
  pub row_within : row < rows
  pub address_is : address ≡ base + (row * stride + column)
  pub column_within : column + size ≤ width

first_or_later : (rows base width stride address size : ℕ) (b : Bool) → (nat_le base address && nat_le (address + size) (base + width)) ≡ b
    → (is_in_row rows (base + stride) width stride address size ≡ true → InRow rows (base + stride) width stride address size)
    → (b || is_in_row rows (base + stride) width stride address size) ≡ true → InRow (suc rows) base width stride address size
first_or_later rows base width stride address size true is later inside =
    let parts = and_parts (nat_le base address) (nat_le (address + size) (base + width)) is in
    let from = leb-true base address parts.0 in
    let to = leb-true (address + size) (base + width) parts.1 in
    record { row = 0; column = address - base; row_within = omega arith; address_is = omega (arith, from); column_within = omega (arith, from, to) }
first_or_later rows base width stride address size false is later inside =
    let found = later inside in
    record {
      row = suc found.row;
      column = found.column;
      row_within = omega (arith, found.row_within);
      address_is = omega (arith, found.address_is);
      column_within = found.column_within;
    }

pub row_of : (rows base width stride address size : ℕ) → is_in_row rows base width stride address size ≡ true → InRow rows base width stride address size
row_of zero base width stride address size inside = absurd (cc)
row_of (suc rows) base width stride address size inside =
    first_or_later rows base width stride address size (nat_le base address && nat_le (address + size) (base + width)) refl
    (λ later. row_of rows (base + stride) width stride address size later) inside

-- ---- addresses

pub length-run : (base width : ℕ) → length (run base width) ≡ width
length-run base zero = refl
length-run base (suc width) = ap suc (length-run (base + 1) width)

pub length-rows : (rows base width stride : ℕ) → length (rows_addresses rows base width stride) ≡ rows * width
length-rows zero base width stride = omega arith
length-rows (suc rows) base width stride =
    omega (arith, length-append (run base width) (rows_addresses rows (base + stride) width stride), length-run base width, length-rows rows (base + stride) width stride)

run_at : (base width k : ℕ) → k < width → slice_get (run base width) k ≡ Some (base + k)
run_at base zero k below = absurd (omega (arith, below))
run_at base (suc width) zero below =
    let same : base ≡ base + 0 = omega arith in
    ap Some same
run_at base (suc width) (suc k) below =
    let on : base + 1 + k ≡ base + suc k = omega arith in
    run_at (base + 1) width k (omega (arith, below)) ∙ ap Some on

-- ---- lists that stand one behind the other

pub get-left : {X : Type 0} (xs ys : List X) (k : ℕ) → k < length xs → slice_get (xs ++ ys) k ≡ slice_get xs k
get-left [] ys k below = absurd (omega (arith, below))
get-left (x ∷ xs) ys zero below = refl
get-left (x ∷ xs) ys (suc k) below = get-left xs ys k (omega (arith, below))

pub get-right : {X : Type 0} (xs ys : List X) (k : ℕ) → slice_get (xs ++ ys) (length xs + k) ≡ slice_get ys k
get-right [] ys k = ap (slice_get ys) (zero-add k)
get-right (x ∷ xs) ys k =
    let on : suc (length xs) + k ≡ suc (length xs + k) = omega arith in
    ap (slice_get (x ∷ (xs ++ ys))) on ∙ get-right xs ys k

pub get-behind : {X : Type 0} (xs ys : List X) (n k : ℕ) → length xs ≡ n → n ≤ k → slice_get (xs ++ ys) k ≡ slice_get ys (k - n)
get-behind xs ys n k long above =
    let at : k ≡ length xs + (k - n) = omega (arith, long, above) in
    ap (slice_get (xs ++ ys)) at ∙ get-right xs ys (k - n)

-- ---- the addresses of rows

-- the address at an offset of rows
pub rows_at : (rows base width stride row column : ℕ) → row < rows → column < width
    → slice_get (rows_addresses rows base width stride) (row * width + column) ≡ Some (base + (row * stride + column))
rows_at zero base width stride row column below within = absurd (omega (arith, below))
rows_at (suc rows) base width stride zero column below within =
    let here : 0 * width + column ≡ column = omega arith in
    let same : base + column ≡ base + (0 * stride + column) = omega arith in
    ap (slice_get (run base width ++ rows_addresses rows (base + stride) width stride)) here
    ∙ get-left (run base width) (rows_addresses rows (base + stride) width stride) column (omega (arith, length-run base width, within))
    ∙ run_at base width column within ∙ ap Some same
rows_at (suc rows) base width stride (suc row) column below within =
    let there : suc row * width + column ≡ length (run base width) + (row * width + column) = omega (arith, length-run base width) in
    let same : base + stride + (row * stride + column) ≡ base + (suc row * stride + column) = omega arith in
    ap (slice_get (run base width ++ rows_addresses rows (base + stride) width stride)) there
    ∙ get-right (run base width) (rows_addresses rows (base + stride) width stride) (row * width + column)
    ∙ rows_at rows (base + stride) width stride row column (omega (arith, below)) within ∙ ap Some same

-- where an offset of rows is
pub record OfRow (rows base width stride offset at : ℕ) : Type 0 where
  pub row : ℕ
  pub column : ℕ
  pub row_within : row < rows
  pub column_within : column < width
  pub offset_is : offset ≡ row * width + column
  pub address_is : at ≡ base + (row * stride + column)

some_same : (a b : ℕ) → Some a ≡ Some b → a ≡ b
some_same a b is = cc is

pub of_row : (rows base width stride offset at : ℕ) → slice_get (rows_addresses rows base width stride) offset ≡ Some at → OfRow rows base width stride offset at
of_row zero base width stride offset at is = absurd (cc)
of_row (suc rows) base width stride offset at is =
    elim (cases_lt offset width) [
      | inl below ↦
          let here = sym (get-left (run base width) (rows_addresses rows (base + stride) width stride) offset (omega (arith, length-run base width, below))) ∙ is in
          let address = some_same (base + offset) at (sym (run_at base width offset below) ∙ here) in
          record { row = 0; column = offset; row_within = omega arith; column_within = below; offset_is = omega arith; address_is = omega (arith, address) }
      | inr above ↦
          let found = of_row rows (base + stride) width stride (offset - width) at
          (sym (get-behind (run base width) (rows_addresses rows (base + stride) width stride) width offset (length-run base width) above) ∙ is) in
          record {
            row = suc found.row;
            column = found.column;
            row_within = omega (arith, found.row_within);
            column_within = found.column_within;
            offset_is = omega (arith, found.offset_is, above);
            address_is = omega (arith, found.address_is);
          }
    ]

-- rows that don't overlap have each address once
pub one_offset : (rows base width stride i k at : ℕ) → width ≤ stride → slice_get (rows_addresses rows base width stride) i ≡ Some at → slice_get (rows_addresses rows base width stride) k ≡ Some at → i ≡ k
one_offset rows base width stride i k at apart is is' =
    let a = of_row rows base width stride i at is in
    let b = of_row rows base width stride k at is' in
    let same : a.row * stride + a.column ≡ b.row * stride + b.column = omega (arith, a.address_is, b.address_is) in
    let row : a.row ≡ b.row = sym (div-mul-add a.row stride a.column (omega (arith, a.column_within, apart))) ∙ ap (λ n. n / stride) same ∙ div-mul-add b.row stride b.column (omega (arith, b.column_within, apart)) in
    let column : a.column ≡ b.column = sym (mod-mul-add a.row stride a.column (omega (arith, a.column_within, apart))) ∙ ap (λ n. n % stride) same ∙ mod-mul-add b.row stride b.column (omega (arith, b.column_within, apart)) in
    a.offset_is ∙ ap (λ r. r * width + a.column) row ∙ ap (λ c. b.row * width + c) column ∙ sym b.offset_is

-- ---- whether a window has a byte

or_right : (a b : Bool) → b ≡ true → (a || b) ≡ true
or_right true b h = refl
or_right false b h = h

pub has_at : (rows base width stride row column : ℕ) → row < rows → column < width → rows_have rows base width stride (base + (row * stride + column)) ≡ true
has_at zero base width stride row column below within = absurd (omega (arith, below))
has_at (suc rows) base width stride zero column below within =
    let from : base ≤ base + (0 * stride + column) = omega arith in
    let to : base + (0 * stride + column) < base + width = omega (arith, within) in
    rw (le-leb base (base + (0 * stride + column)) from, lt-ltb (base + (0 * stride + column)) (base + width) to)
has_at (suc rows) base width stride (suc row) column below within =
    let next : base + stride + (row * stride + column) ≡ base + (suc row * stride + column) = omega arith in
    or_right (is_between base (base + width) (base + (suc row * stride + column))) (rows_have rows (base + stride) width stride (base + (suc row * stride + column)))
    (ap (rows_have rows (base + stride) width stride) (sym next) ∙ has_at rows (base + stride) width stride row column (omega (arith, below)) within)

-- the window has what stands among its addresses
pub has_found : (w : Window) (k at : ℕ) → slice_get (window_addresses w) k ≡ Some at → has_byte w at ≡ true
has_found w k at is =
    let of = of_row w.rows w.base w.width w.stride k at is in
    ap (has_byte w) of.address_is ∙ has_at w.rows w.base w.width w.stride of.row of.column of.row_within of.column_within

found_by : (rows base width stride at : ℕ) (b : Bool) → is_between base (base + width) at ≡ b
    → (rows_have rows (base + stride) width stride at ≡ true → (k : ℕ) × (slice_get (rows_addresses rows (base + stride) width stride) k ≡ Some at))
    → (b || rows_have rows (base + stride) width stride at) ≡ true → (k : ℕ) × (slice_get (run base width ++ rows_addresses rows (base + stride) width stride) k ≡ Some at)
found_by rows base width stride at true is later has =
    let parts = and_parts (nat_le base at) (nat_lt at (base + width)) is in
    let from = leb-true base at parts.0 in
    let to = ltb-true at (base + width) parts.1 in
    let same : base + (at - base) ≡ at = omega (arith, from) in
    let within : at - base < width = omega (arith, from, to) in (
      at - base,
      get-left (run base width) (rows_addresses rows (base + stride) width stride) (at - base) (omega (arith, length-run base width, within)) ∙ run_at base width (at - base) within ∙ ap Some same,
    )
found_by rows base width stride at false is later has =
    let found = later has in
    (length (run base width) + found.0, get-right (run base width) (rows_addresses rows (base + stride) width stride) found.0 ∙ found.1)

-- and what it has stands among its addresses
pub found_in : (rows base width stride at : ℕ) → rows_have rows base width stride at ≡ true → (k : ℕ) × (slice_get (rows_addresses rows base width stride) k ≡ Some at)
found_in zero base width stride at has = absurd (cc)
found_in (suc rows) base width stride at has =
    found_by rows base width stride at (is_between base (base + width) at) refl (λ later. found_in rows (base + stride) width stride at later) has

-- ---- what the code finds

none_by : (b : Bool) → (b ≡ true → ⊥) → b ≡ false
none_by true never = absurd (never refl)
none_by false never = refl

module _ (w : Window) (is : IsWindow w) (address count : ℕ) (some : 1 ≤ count) where
  pub below_base : address < w.base → is_in_window w address count ≡ false
  below_base below = none_by (is_in_window w address count) (λ inside. absurd (omega (arith, below, (row_of w.rows w.base w.width w.stride address count inside).address_is)))

  module _ (above : w.base ≤ address) where
    by_distance : InRow w.rows w.base w.width w.stride address count → ((address - w.base) / w.stride < w.rows) × ((address - w.base) % w.stride + count ≤ w.width)
    by_distance found =
        let same : address - w.base ≡ found.row * w.stride + found.column = omega (arith, found.address_is) in
        let small : found.column < w.stride = omega (arith, found.column_within, is.apart, some) in
        let row : (address - w.base) / w.stride ≡ found.row = ap (λ n. n / w.stride) same ∙ div-mul-add found.row w.stride found.column small in
        let column : (address - w.base) % w.stride ≡ found.column = ap (λ n. n % w.stride) same ∙ mod-mul-add found.row w.stride found.column small in
        (omega (arith, row, found.row_within), omega (arith, column, found.column_within))

    pub in_window : (address - w.base) / w.stride < w.rows → (address - w.base) % w.stride + count ≤ w.width → is_in_window w address count ≡ true
    in_window row column =
        let whole = div-add-mod' (address - w.base) w.stride in
        in_row w.rows w.base w.width w.stride address count ((address - w.base) / w.stride) ((address - w.base) % w.stride) row (omega (arith, whole, above)) column

    pub no_row : (w.rows ≤ (address - w.base) / w.stride) → is_in_window w address count ≡ false
    no_row over = none_by (is_in_window w address count) (λ inside. absurd (omega (arith, over, (by_distance (row_of w.rows w.base w.width w.stride address count inside)).0)))

    pub over_end : (w.width < (address - w.base) % w.stride + count) → is_in_window w address count ≡ false
    over_end over = none_by (is_in_window w address count) (λ inside. absurd (omega (arith, over, (by_distance (row_of w.rows w.base w.width w.stride address count inside)).1)))
