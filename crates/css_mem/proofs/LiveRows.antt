-- Windows' rows in the bytes that the code keeps.
use Rattle.std.proofs.Common.{◌≡◌, ℕ, zero, suc, ◌+◌, ◌-◌, ◌*◌, ◌≤◌, ◌<◌, List, ◌++◌, length, take, drop, Bool, true, nat_le, zero-add, append_assoc, refl, ap, sym, subst, ◌∙◌, arith}
use Rattle.std.proofs.Math.Nat.{suc-mul}
use Rattle.std.proofs.lemmas.List.{drop-drop, length-drop}
use Rattle.std.proofs.lemmas.Bool.{and_parts, leb-true}
use Rattle.css_semantics.specs.Memory.{Memory, stack_place, all_from, is_live_byte, bytes_at, overlaid, stored}
use Rattle.css_semantics.specs.WithWindow.{with_rows, with_window}
use Rattle.css_semantics.specs.Rules.{all_of_rows, all_of_window}
use Rattle.css_semantics.specs.Verdict.{bytes_of_rows, bytes_of_window}
use Rattle.css_semantics.proofs.StackPlaces.{length-overlaid}
use Rattle.css_semantics.specs.Tasks.{Window}
use Rattle.css_record.specs.Windows.{IsWindow}
use Rattle.css_mem.specs.Slices.{RowsFit, rows_of, over_rows}
use Rattle.css_vm.proofs.Bytes.{drop-overlaid, overlaid-shift}
use Rattle.css_mem.proofs.Memories.{memory, kept, live_in_stack, bytes_in_stack}

-- the first of some rows
pub first_row : (test : ℕ → Bool) (rows base width stride : ℕ) → 1 ≤ rows → all_of_rows test rows base width stride ≡ true → all_from test base width ≡ true
first_row test zero base width stride some all = absurd (omega arith)
first_row test (suc rows) base width stride some all = (and_parts (all_from test base width) (all_of_rows test rows (base + stride) width stride) all).0

module _ (origin start calls most : ℕ) where
  -- a row that is live
  pub row_inside : (bytes : List ℕ) (address width : ℕ) → start ≤ length bytes → 1 ≤ width → all_from (is_live_byte (kept origin start bytes calls most)) address width ≡ true
      → (origin + start ≤ address) × (address + width ≤ origin + length bytes)
  row_inside bytes address width within some live =
      let is = live_in_stack (origin + length bytes) (drop start bytes) calls (record { bytes = length bytes; calls = most }) address width some in
      let parts = and_parts (nat_le (origin + length bytes - length (drop start bytes)) address) (nat_le (address + width) (origin + length bytes)) (sym is ∙ live) in
      (omega (arith, leb-true (origin + length bytes - length (drop start bytes)) address parts.0, length-drop start bytes), leb-true (address + width) (origin + length bytes) parts.1)

  pub rows_fit : (bytes : List ℕ) (rows address at width stride : ℕ) → start ≤ length bytes → 1 ≤ width → address ≡ origin + at
      → all_of_rows (is_live_byte (kept origin start bytes calls most)) rows address width stride ≡ true → RowsFit (length bytes) rows at width stride
  rows_fit bytes zero address at width stride within some is live = tt
  rows_fit bytes (suc rows) address at width stride within some is live =
      let test = is_live_byte (kept origin start bytes calls most) in
      let parts = and_parts (all_from test address width) (all_of_rows test rows (address + stride) width stride) live in (
        omega (arith, is, (row_inside bytes address width within some parts.0).1),
        rows_fit bytes rows (address + stride) (at + stride) width stride within some (omega (arith, is)) parts.1,
      )

  -- the bytes of live rows
  pub rows_read : (bytes : List ℕ) (rows address at width stride : ℕ) → start ≤ length bytes → 1 ≤ width → address ≡ origin + at
      → all_of_rows (is_live_byte (kept origin start bytes calls most)) rows address width stride ≡ true
      → rows_of bytes rows at width stride ≡ bytes_of_rows (kept origin start bytes calls most) rows address width stride
  rows_read bytes zero address at width stride within some is live = refl
  rows_read bytes (suc rows) address at width stride within some is live =
      let m = kept origin start bytes calls most in
      let test = is_live_byte m in
      let parts = and_parts (all_from test address width) (all_of_rows test rows (address + stride) width stride) live in
      let inside = row_inside bytes address width within some parts.0 in
      let long = length-drop start bytes in
      let here : bytes_at m address width ≡ take width (drop (at - start) (drop start bytes)) =
      bytes_in_stack (origin + length bytes) (drop start bytes) calls (record { bytes = length bytes; calls = most }) address width (at - start) (omega (arith, is, inside.0, long, within)) (omega (arith, is, inside.0, inside.1, long, within)) in
      let from : start + (at - start) ≡ at = omega (arith, is, inside.0) in
      let row : bytes_at m address width ≡ take width (drop at bytes) =
      here ∙ ap (take width) (drop-drop (at - start) start bytes) ∙ ap (λ n. take width (drop n bytes)) from in
      rw (row, rows_read bytes rows (address + stride) (at + stride) width stride within some (omega (arith, is)) parts.1)

  -- a store into the bytes that are kept
  stored_kept : (bytes : List ℕ) (address at : ℕ) (new : List ℕ) → start ≤ length bytes → address ≡ origin + at
      → kept origin start (overlaid 0 bytes at new) calls most ≡ stored (kept origin start bytes calls most) address new
  stored_kept bytes address at new within is =
      let written = overlaid 0 bytes at new in
      let same_length : length written ≡ length bytes = length-overlaid 0 bytes at new in
      let place : origin + start ≡ stack_place (kept origin start bytes calls most) = omega (arith, length-drop start bytes, within) in
      let stack : drop start written ≡ overlaid (stack_place (kept origin start bytes calls most)) (drop start bytes) address new =
      drop-overlaid start 0 bytes at new
      ∙ ap (λ n. overlaid n (drop start bytes) at new) (zero-add start)
      ∙ sym (overlaid-shift origin start (drop start bytes) at new)
      ∙ ap (λ n. overlaid (origin + start) (drop start bytes) n new) (sym is)
      ∙ ap (λ n. overlaid n (drop start bytes) address new) place in
      ap (λ n. memory (origin + n) (drop start written) calls (record { bytes = n; calls = most })) same_length
      ∙ ap (λ s. memory (origin + length bytes) s calls (record { bytes = length bytes; calls = most })) stack

  -- bytes that are written into rows
  pub rows_written : (rows : ℕ) (bytes : List ℕ) (address at width stride : ℕ) (new : List ℕ) → start ≤ length bytes → address ≡ origin + at
      → kept origin start (over_rows bytes rows at width stride new) calls most ≡ with_rows (kept origin start bytes calls most) rows address width stride new
  rows_written zero bytes address at width stride new within is = refl
  rows_written (suc rows) bytes address at width stride new within is =
      let written = overlaid 0 bytes at (take width new) in
      rows_written rows written (address + stride) (at + stride) width stride (drop width new) (omega (arith, within, length-overlaid 0 bytes at (take width new))) (omega (arith, is))
      ∙ ap (λ (m : Memory). with_rows m rows (address + stride) width stride (drop width new)) (stored_kept bytes address at (take width new) within is)

-- as many bytes, however they are written
pub length-over_rows : (rows : ℕ) (bytes : List ℕ) (at width stride : ℕ) (new : List ℕ) → length (over_rows bytes rows at width stride new) ≡ length bytes
length-over_rows zero bytes at width stride new = refl
length-over_rows (suc rows) bytes at width stride new =
    length-over_rows rows (overlaid 0 bytes at (take width new)) (at + stride) width stride (drop width new) ∙ length-overlaid 0 bytes at (take width new)

-- ---- one row after another

pub one_more : (rows row : ℕ) → row < rows → rows - row ≡ suc (rows - (row + 1))
one_more rows row below = omega (arith, below)

pub fits_step : (size left rest at width stride : ℕ) → left ≡ suc rest → RowsFit size left at width stride → RowsFit size (suc rest) at width stride
fits_step size left rest at width stride is fits = subst (λ (n : ℕ). RowsFit size n at width stride) is fits

pub fits_size : (size size' rows at width stride : ℕ) → size' ≡ size → RowsFit size rows at width stride → RowsFit size' rows at width stride
fits_size size size' rows at width stride is fits = subst (λ (n : ℕ). RowsFit n rows at width stride) (sym is) fits

-- a row is appended
pub row_copied : (copied new bytes whole : List ℕ) (left rest at width stride : ℕ) → left ≡ suc rest
    → new ≡ copied ++ take (at + width - at) (drop at bytes)
    → copied ++ rows_of bytes left at width stride ≡ whole
    → new ++ rows_of bytes rest (at + stride) width stride ≡ whole
row_copied copied new bytes whole left rest at width stride is grown before =
    let more = rows_of bytes rest (at + stride) width stride in
    let long : at + width - at ≡ width = omega arith in
    ap (λ bs. bs ++ more) grown
    ∙ append_assoc copied (take (at + width - at) (drop at bytes)) more
    ∙ ap (λ n. copied ++ (take n (drop at bytes) ++ more)) long
    ∙ ap (λ n. copied ++ rows_of bytes n at width stride) (sym is)
    ∙ before

-- a row is written
pub row_written : (bytes written new whole : List ℕ) (left rest at width stride done : ℕ) → left ≡ suc rest
    → written ≡ overlaid 0 bytes at (take (done + width - done) (drop done new))
    → over_rows bytes left at width stride (drop done new) ≡ whole
    → over_rows written rest (at + stride) width stride (drop (done + width) new) ≡ whole
row_written bytes written new whole left rest at width stride done is grown before =
    let long : done + width - done ≡ width = omega arith in
    ap (λ bs. over_rows bs rest (at + stride) width stride (drop (done + width) new)) (grown ∙ ap (λ n. overlaid 0 bytes at (take n (drop done new))) long)
    ∙ ap (λ bs. over_rows (overlaid 0 bytes at (take width (drop done new))) rest (at + stride) width stride bs) (sym (drop-drop width done new))
    ∙ ap (λ n. over_rows bytes n at width stride (drop done new)) (sym is)
    ∙ before

pub left_step : (left rest width done size : ℕ) → left ≡ suc rest → done + left * width ≡ size → done + width + rest * width ≡ size
left_step left rest width done size is before =
    let one : suc rest * width ≡ rest * width + width = suc-mul rest width in
    let now : done + suc rest * width ≡ size = ap (λ n. done + n * width) (sym is) ∙ before in
    omega (arith, one, now)

-- ---- a window that is live

module _ (origin start : ℕ) (bytes : List ℕ) (calls most : ℕ) (m : Memory) (within : start ≤ length bytes) (view : kept origin start bytes calls most ≡ m)
    (w : Window) (is_window : IsWindow w) (live : all_of_window (is_live_byte m) w ≡ true) where
  live_here : all_of_rows (is_live_byte (kept origin start bytes calls most)) w.rows w.base w.width w.stride ≡ true
  live_here = ap (λ (m : Memory). all_of_window (is_live_byte m) w) view ∙ live

  first_inside : (origin + start ≤ w.base) × (w.base + w.width ≤ origin + length bytes)
  first_inside = row_inside origin start calls most bytes w.base w.width within is_window.width
      (first_row (is_live_byte (kept origin start bytes calls most)) w.rows w.base w.width w.stride is_window.rows live_here)

  pub origin_below : origin ≤ w.base
  origin_below = omega (arith, first_inside.0)

  at_index : w.base ≡ origin + (w.base - origin)
  at_index = omega (arith, origin_below)

  pub window_fits : RowsFit (length bytes) w.rows (w.base - origin) w.width w.stride
  window_fits = rows_fit origin start calls most bytes w.rows w.base (w.base - origin) w.width w.stride within is_window.width at_index live_here

  pub window_read : rows_of bytes w.rows (w.base - origin) w.width w.stride ≡ bytes_of_window m w
  window_read =
      rows_read origin start calls most bytes w.rows w.base (w.base - origin) w.width w.stride within is_window.width at_index live_here
      ∙ ap (λ (m : Memory). bytes_of_window m w) view

  pub window_written : (new written : List ℕ) → written ≡ over_rows bytes w.rows (w.base - origin) w.width w.stride new → kept origin start written calls most ≡ with_window m w new
  window_written new written is =
      ap (λ bs. kept origin start bs calls most) is
      ∙ rows_written origin start calls most w.rows bytes w.base (w.base - origin) w.width w.stride new within at_index
      ∙ ap (λ (m : Memory). with_window m w new) view
