-- Whether all bytes of a window are live.
use Rattle.std.proofs.Common.{◌≡◌, ℕ, ◌+◌, ◌*◌, ◌-◌, ◌<◌, ◌≤◌, Bool, true, false, not, ◌&&◌, ◌||◌, nat_lt, nat_le, ◌⊎◌, inl, inr, sym, ◌∙◌, arith}
use Rattle.std.proofs.lemmas.Nat.{mul-le}
use Rattle.std.proofs.lemmas.Bool.{and_parts, and_from, or_cases, or_left, or_right, ltb-true, lt-ltb, leb-true, le-leb, cases_lt, false≢true, false_from_ne_true}
use Rattle.css_semantics.specs.Memory.{first_global, is_between}
use Rattle.css_semantics.specs.Tasks.{Window, has_byte}
use Rattle.css_semantics.specs.Rules.{all_of_window}
use Rattle.css_semantics.proofs.Windows.{window_gives, window_by}
use Rattle.css_record.specs.declared.layout.Layout.{Layout}
use Rattle.css_record.specs.Windows.{IsWindow}
use Rattle.css_semantics.specs.WindowRanges.{window_meets}
use Rattle.css_arguments.specs.Layouts.{is_live_at, IsLayout}
use Rattle.css_semantics.proofs.WindowRanges.{have_gives, have_by, rows_give, rows_by}

between : (from to a : ℕ) → from ≤ a → a < to → is_between from to a ≡ true
between from to a above below = and_from (nat_le from a) (nat_lt a to) (le-leb from a above) (lt-ltb a to below)

between_gives : (from to a : ℕ) → is_between from to a ≡ true → (from ≤ a) × (a < to)
between_gives from to a is =
    let parts = and_parts (nat_le from a) (nat_lt a to) is in
    (leb-true from a parts.0, ltb-true a to parts.1)

-- a window meets what lies between two parts
abbrev pub meets_gap : Window → (from to : ℕ) → Bool
meets_gap w from to = nat_lt from to && window_meets w from to

module _ (l : Layout) (is : IsLayout l) where
  -- a byte is live exactly where it lies between the first part's start and the last one's end, and in neither gap
  live_by : (a : ℕ) → first_global ≤ a → a < l.end → (a < l.globals_end) ⊎ (l.heap_start ≤ a) → (a < l.heap_top) ⊎ (l.stack_place ≤ a) → is_live_at l a ≡ true
  live_by a above below (inl global) second = or_left (is_between first_global l.globals_end a) (is_between l.heap_start l.heap_top a || is_between l.stack_place l.end a) (between first_global l.globals_end a above global)
  live_by a above below (inr behind) (inl heap) =
      or_right (is_between first_global l.globals_end a) (is_between l.heap_start l.heap_top a || is_between l.stack_place l.end a)
      (or_left (is_between l.heap_start l.heap_top a) (is_between l.stack_place l.end a) (between l.heap_start l.heap_top a behind heap))
  live_by a above below (inr behind) (inr stack) =
      or_right (is_between first_global l.globals_end a) (is_between l.heap_start l.heap_top a || is_between l.stack_place l.end a)
      (or_right (is_between l.heap_start l.heap_top a) (is_between l.stack_place l.end a) (between l.stack_place l.end a stack below))

  live_gives : (a : ℕ) → is_live_at l a ≡ true → (first_global ≤ a) × (a < l.end) × (l.globals_end ≤ a → a < l.heap_start → ⊥) × (l.heap_top ≤ a → a < l.stack_place → ⊥)
  live_gives a live =
      elim (or_cases (is_between first_global l.globals_end a) (is_between l.heap_start l.heap_top a || is_between l.stack_place l.end a) live) [
        | inl global ↦
            let h = between_gives first_global l.globals_end a global in
            (omega (arith, h.0), omega (arith, h.1, is.heap, is.top, is.stack, is.end), (λ x y. omega (arith, h.1, x)), λ x y. omega (arith, h.1, x, is.heap, is.top))
        | inr other ↦
            elim (or_cases (is_between l.heap_start l.heap_top a) (is_between l.stack_place l.end a) other) [
              | inl heap ↦
                  let h = between_gives l.heap_start l.heap_top a heap in
                  (omega (arith, h.0, is.globals, is.heap), omega (arith, h.1, is.stack, is.end), (λ x y. omega (arith, h.0, y)), λ x y. omega (arith, h.1, x))
              | inr stack ↦
                  let h = between_gives l.stack_place l.end a stack in
                  (omega (arith, h.0, is.globals, is.heap, is.top, is.stack), omega (arith, h.1), (λ x y. omega (arith, h.0, y, is.top, is.stack)), λ x y. omega (arith, h.0, y))
            ]
      ]

  module _ (w : Window) (shape : IsWindow w) where
    gap_gives : (from to a i : ℕ) → meets_gap w from to ≡ false → i < w.rows → w.base + i * w.stride ≤ a → a < w.base + i * w.stride + w.width → (a < from) ⊎ (to ≤ a)
    gap_gives from to a i none within above below = by (cases_lt a from) (cases_lt a to)
      where
        by : (a < from) ⊎ (from ≤ a) → (a < to) ⊎ (to ≤ a) → (a < from) ⊎ (to ≤ a)
        by (inl less) other = inl less
        by (inr more) (inr over) = inr over
        by (inr more) (inl less) =
            absurd (false≢true (sym none
            ∙ and_from (nat_lt from to) (window_meets w from to) (lt-ltb from to (omega arith)) (rows_by w.rows w.base w.width w.stride from to i within (omega arith) (omega arith))))

    gap_by : (from to : ℕ) → ((a : ℕ) → has_byte w a ≡ true → from ≤ a → a < to → ⊥) → meets_gap w from to ≡ false
    gap_by from to none =
        false_from_ne_true (nat_lt from to && window_meets w from to)
        (λ both.
        let parts = and_parts (nat_lt from to) (window_meets w from to) both in
        let row = rows_give w.rows w.base w.width w.stride from to parts.1 in
        let some = ltb-true from to parts.0 in
        elim (cases_lt from (w.base + row.0 * w.stride)) [
          | inl before ↦
              none (w.base + row.0 * w.stride) (have_by w.rows w.base w.width w.stride (w.base + row.0 * w.stride) row.0 row.1 (omega arith) (omega (arith, shape.width))) (omega arith) row.2
          | inr behind ↦ none from (have_by w.rows w.base w.width w.stride from row.0 row.1 behind row.3) (omega arith) some
        ])

    abbrev end : ℕ
    end = w.base + (w.rows - 1) * w.stride + w.width

    pub all_live : first_global ≤ w.base → end ≤ l.end → meets_gap w l.globals_end l.heap_start ≡ false → meets_gap w l.heap_top l.stack_place ≡ false
        → all_of_window (is_live_at l) w ≡ true
    all_live first last gap other =
        window_by (is_live_at l) w
        (λ a has.
        let row = have_gives w.rows w.base w.width w.stride a has in
        let less = mul-le row.0 w.stride (w.rows - 1) w.stride (omega (arith, row.1)) (omega arith) in
        live_by a (omega (arith, first, row.2)) (omega (arith, last, row.3, less))
        (gap_gives l.globals_end l.heap_start a row.0 gap row.1 row.2 row.3)
        (gap_gives l.heap_top l.stack_place a row.0 other row.1 row.2 row.3))

    -- what holds where all bytes are live
    module _ (all : all_of_window (is_live_at l) w ≡ true) where
      each : (a : ℕ) → has_byte w a ≡ true → is_live_at l a ≡ true
      each = window_gives (is_live_at l) w all

      first_live : first_global ≤ w.base
      first_live = (live_gives w.base (each w.base (have_by w.rows w.base w.width w.stride w.base 0 (omega (arith, shape.rows)) (omega arith) (omega (arith, shape.width))))).0

      last_live : end ≤ l.end
      last_live =
          let last : ℕ = end - 1 in
          let below : last < l.end =
          (live_gives last (each last (have_by w.rows w.base w.width w.stride last (w.rows - 1) (omega (arith, shape.rows)) (omega (arith, shape.width)) (omega (arith, shape.width))))).1 in
          omega (arith, below, shape.width)

      first_gap : meets_gap w l.globals_end l.heap_start ≡ false
      first_gap = gap_by l.globals_end l.heap_start (λ a has above under. (live_gives a (each a has)).2 above under)

      second_gap : meets_gap w l.heap_top l.stack_place ≡ false
      second_gap = gap_by l.heap_top l.stack_place (λ a has above under. (live_gives a (each a has)).3 above under)

    pub dead_first : w.base < first_global → all_of_window (is_live_at l) w ≡ false
    dead_first below = false_from_ne_true (all_of_window (is_live_at l) w) (λ all. omega (arith, below, first_live all))

    pub dead_last : l.end < end → all_of_window (is_live_at l) w ≡ false
    dead_last above = false_from_ne_true (all_of_window (is_live_at l) w) (λ all. omega (arith, above, last_live all))

    pub dead_gap : meets_gap w l.globals_end l.heap_start ≡ true → all_of_window (is_live_at l) w ≡ false
    dead_gap met = false_from_ne_true (all_of_window (is_live_at l) w) (λ all. false≢true (sym (first_gap all) ∙ met))

    pub dead_other : meets_gap w l.heap_top l.stack_place ≡ true → all_of_window (is_live_at l) w ≡ false
    dead_other met = false_from_ne_true (all_of_window (is_live_at l) w) (λ all. false≢true (sym (second_gap all) ∙ met))

    pub last_gap : (met : Bool) → met ≡ meets_gap w l.heap_top l.stack_place → first_global ≤ w.base → end ≤ l.end → meets_gap w l.globals_end l.heap_start ≡ false
        → not met ≡ all_of_window (is_live_at l) w
    last_gap true met first last gap = sym (dead_other (sym met))
    last_gap false none first last gap = sym (all_live first last gap (sym none))
