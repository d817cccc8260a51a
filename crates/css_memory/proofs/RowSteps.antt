-- Rows of windows, one after another.
use Rattle.std.proofs.Common.{◌≡◌, ℕ, zero, suc, ◌+◌, ◌-◌, ◌*◌, ◌^◌, ◌≤◌, ◌<◌, Bool, true, List, ◌++◌, take, drop, append_assoc, ap, sym, subst, ◌∙◌, arith}
use Rattle.std.proofs.Math.Nat.{suc-mul}
use Rattle.std.proofs.lemmas.List.{drop-drop}
use Rattle.std.proofs.lemmas.Bool.{and_parts}
use Rattle.css_semantics.specs.Memory.{Memory, all_from, is_live_byte, bytes_at, stored}
use Rattle.css_semantics.specs.Tasks.{Window}
use Rattle.css_semantics.specs.Rules.{all_of_rows}
use Rattle.css_semantics.specs.Verdict.{bytes_of_rows}
use Rattle.css_semantics.specs.WithWindow.{with_rows}
use Rattle.css_record.specs.Windows.{IsWindow}
use Rattle.css_memory.specs.Kept.{Parts, top_of, place_of, end_of, kept, IsKept}
use Rattle.css_memory.specs.Pages.{rows_between, RowsEnd}
use Rattle.css_memory.proofs.Ranges.{all_gives, live_below}
use Rattle.css_memory.proofs.Places.{globals_below, stack_above, stack_below, live_byte}

pub one_more : (rows row : ℕ) → row < rows → rows - row ≡ suc (rows - (row + 1))
one_more rows row below = omega (arith, below)

pub left_step : (left rest width done size : ℕ) → left ≡ suc rest → done + left * width ≡ size → done + width + rest * width ≡ size
left_step left rest width done size is before =
    let one : suc rest * width ≡ rest * width + width = suc-mul rest width in
    let now : done + suc rest * width ≡ size = ap (λ n. done + n * width) (sym is) ∙ before in
    omega (arith, one, now)

-- a row of those that are left ends with them
pub left_row : (left rest width done size : ℕ) → left ≡ suc rest → done + left * width ≡ size → done + width ≤ size
left_row left rest width done size is before = omega (arith, left_step left rest width done size is before)

-- ---- where rows end

pub ends_step : (size left rest at width stride : ℕ) → left ≡ suc rest → RowsEnd size left at width stride → (at + width ≤ size) × RowsEnd size rest (at + stride) width stride
ends_step size left rest at width stride is ends = subst (λ (n : ℕ). RowsEnd size n at width stride) is ends

pub ends_more : (size size' rows at width stride : ℕ) → size ≤ size' → RowsEnd size rows at width stride → RowsEnd size' rows at width stride
ends_more size size' zero at width stride more ends = tt
ends_more size size' (suc rows) at width stride more ends = (omega (arith, ends.0), ends_more size size' rows (at + stride) width stride more ends.1)

ends_by : (size rows at width stride : ℕ) → at + rows * stride + width ≤ size → RowsEnd size (suc rows) at width stride
ends_by size zero at width stride within = (omega (arith, within), tt)
ends_by size (suc rows) at width stride within =
    let one : suc rows * stride ≡ rows * stride + stride = suc-mul rows stride in
    (omega (arith, one), ends_by size rows (at + stride) width stride (omega (arith, one)))

pub window_ends : (w : Window) → IsWindow w → w.base < 2 ^ 32 → RowsEnd (2 ^ 33) w.rows w.base w.width w.stride
window_ends w is below =
    let some : w.rows ≡ suc (w.rows - 1) = omega (arith, is.rows) in
    subst (λ (n : ℕ). RowsEnd (2 ^ 33) n w.base w.width w.stride) (sym some)
    (ends_by (2 ^ 33) (w.rows - 1) w.base w.width w.stride (omega (arith, is.small, below)))

pub live_ends : (p : Parts) (calls most reserved count : ℕ) → IsKept p reserved count → (rows base width stride : ℕ) → 1 ≤ width
    → all_of_rows (is_live_byte (kept p calls most)) rows base width stride ≡ true → RowsEnd (end_of p) rows base width stride
live_ends p calls most reserved count is zero base width stride some live = tt
live_ends p calls most reserved count is (suc rows) base width stride some live =
    let test = is_live_byte (kept p calls most) in
    let parts = and_parts (all_from test base width) (all_of_rows test rows (base + stride) width stride) live in
    let last : base + (width - 1) < end_of p =
    live_below p.globals_end p.heap_start (top_of p) (place_of p) (end_of p) is.globals (globals_below p calls most reserved count is) is.heap (stack_above p calls most reserved count is) (stack_below p calls most reserved count is) (base + (width - 1))
    (sym (live_byte p calls most reserved count is (base + (width - 1))) ∙ all_gives test base width parts.0 (base + (width - 1)) (omega arith) (omega arith)) in
    (omega (arith, last), live_ends p calls most reserved count is rows (base + stride) width stride some parts.1)

-- ---- what is left of rows

pub between_step : (left rest at width stride from to : ℕ) → left ≡ suc rest → rows_between left at width stride from to ≡ rows_between (suc rest) at width stride from to
between_step left rest at width stride from to is = ap (λ n. rows_between n at width stride from to) is

pub live_step : (test : ℕ → Bool) (left rest at width stride : ℕ) → left ≡ suc rest → all_of_rows test left at width stride ≡ true
    → (all_from test at width ≡ true) × (all_of_rows test rest (at + stride) width stride ≡ true)
live_step test left rest at width stride is live =
    and_parts (all_from test at width) (all_of_rows test rest (at + stride) width stride) (sym (ap (λ n. all_of_rows test n at width stride) is) ∙ live)

-- a row is copied
pub row_copied : (m : Memory) (copied copied' new whole : List ℕ) (left rest at width stride done : ℕ) → left ≡ suc rest
    → take (done + width) copied' ≡ take done copied ++ new → new ≡ bytes_at m at width
    → take done copied ++ bytes_of_rows m left at width stride ≡ whole
    → take (done + width) copied' ++ bytes_of_rows m rest (at + stride) width stride ≡ whole
row_copied m copied copied' new whole left rest at width stride done is grown row before =
    let more = bytes_of_rows m rest (at + stride) width stride in
    ap (λ bs. bs ++ more) grown
    ∙ append_assoc (take done copied) new more
    ∙ ap (λ bs. take done copied ++ (bs ++ more)) row
    ∙ ap (λ n. take done copied ++ bytes_of_rows m n at width stride) (sym is)
    ∙ before

-- a row is written
pub row_stored : (m m' whole : Memory) (row bytes : List ℕ) (left rest at width stride done : ℕ) → left ≡ suc rest
    → m' ≡ stored m at row → row ≡ take width (drop done bytes)
    → with_rows m left at width stride (drop done bytes) ≡ whole
    → with_rows m' rest (at + stride) width stride (drop (done + width) bytes) ≡ whole
row_stored m m' whole row bytes left rest at width stride done is after is_row before =
    ap (λ (n : Memory). with_rows n rest (at + stride) width stride (drop (done + width) bytes)) (after ∙ ap (stored m at) is_row)
    ∙ ap (λ bs. with_rows (stored m at (take width (drop done bytes))) rest (at + stride) width stride bs) (sym (drop-drop width done bytes))
    ∙ ap (λ n. with_rows m n at width stride (drop done bytes)) (sym is)
    ∙ before
