-- Properties of each of some bytes, and which bytes are live by the addresses of a memory's parts.
use Rattle.std.proofs.Common.{◌≡◌, ℕ, zero, suc, ◌+◌, ◌-◌, ◌≤◌, ◌<◌, max, Bool, true, false, not, ◌&&◌, ◌||◌, nat_le, nat_lt, refl, subst, sym, ◌∙◌, arith, ◌⊎◌, inl, inr}
use Rattle.std.proofs.Math.Nat.{eq-or-lt_of_le}
use Rattle.std.proofs.lemmas.Bool.{and_parts, and_from, or_cases, or_left, or_right, cases_lt, leb-true, ltb-true, le-leb, lt-ltb}
use Rattle.css_semantics.specs.Memory.{all_from, is_between}
use Rattle.css_memory.specs.Kept.{meets_gap}

pub same_bool : (a b : Bool) → (a ≡ true → b ≡ true) → (b ≡ true → a ≡ true) → a ≡ b
same_bool true b to from = sym (to refl)
same_bool false true to from = from refl
same_bool false false to from = refl

pub not_by : (b : Bool) → (b ≡ true → ⊥) → not b ≡ true
not_by true none = absurd (none refl)
not_by false none = refl

pub not_gives : (b : Bool) → not b ≡ true → b ≡ true → ⊥
not_gives true h is = cc
not_gives false h is = cc

pub between_parts : (from to a : ℕ) → is_between from to a ≡ true → (from ≤ a) × (a < to)
between_parts from to a is =
    let parts = and_parts (nat_le from a) (nat_lt a to) is in
    (leb-true from a parts.0, ltb-true a to parts.1)

pub between_by : (from to a : ℕ) → from ≤ a → a < to → is_between from to a ≡ true
between_by from to a above below = and_from (nat_le from a) (nat_lt a to) (le-leb from a above) (lt-ltb a to below)

module _ (test : ℕ → Bool) where
  pub all_gives : (from width : ℕ) → all_from test from width ≡ true → (a : ℕ) → from ≤ a → a < from + width → test a ≡ true
  all_gives from zero all a above below = absurd (omega arith)
  all_gives from (suc width) all a above below =
      let parts = and_parts (test from) (all_from test (from + 1) width) all in
      elim (eq-or-lt_of_le above) [
        | inl same ↦ subst (λ (n : ℕ). test n ≡ true) same parts.0
        | inr more ↦ all_gives (from + 1) width parts.1 a (omega arith) (omega arith)
      ]

  pub all_by : (from width : ℕ) → ((a : ℕ) → from ≤ a → a < from + width → test a ≡ true) → all_from test from width ≡ true
  all_by from zero each = refl
  all_by from (suc width) each =
      and_from (test from) (all_from test (from + 1) width) (each from (omega arith) (omega arith))
      (all_by (from + 1) width (λ a above below. each a (omega arith) (omega arith)))

-- ---- live bytes by five addresses

abbrev pub is_live_at : (g h t s e a : ℕ) → Bool
is_live_at g h t s e a = is_between 4096 g a || (is_between h t a || is_between s e a)

-- what a live byte is
live_parts : (g h t s e a : ℕ) → is_live_at g h t s e a ≡ true → ((4096 ≤ a) × (a < g)) ⊎ (((h ≤ a) × (a < t)) ⊎ ((s ≤ a) × (a < e)))
live_parts g h t s e a live =
    elim (or_cases (is_between 4096 g a) (is_between h t a || is_between s e a) live) [
      | inl of_globals ↦ inl (between_parts 4096 g a of_globals)
      | inr others ↦ elim (or_cases (is_between h t a) (is_between s e a) others) [
        | inl of_heap ↦ inr (inl (between_parts h t a of_heap))
        | inr of_stack ↦ inr (inr (between_parts s e a of_stack))
      ]
    ]

-- the test by the two gaps
abbrev pub is_range : (g h t s e address to : ℕ) → Bool
is_range g h t s e address to = (nat_le 4096 address && nat_le to e) && (not (meets_gap g h address to) && not (meets_gap t s address to))

module _ (g h t s e : ℕ) (first : 4096 ≤ g) (globals : g ≤ h) (heap : h ≤ t) (stack : t ≤ s) (end : s ≤ e) where
  pub live_above : (a : ℕ) → is_live_at g h t s e a ≡ true → 4096 ≤ a
  live_above a live =
      elim (live_parts g h t s e a live) [
        | inl w ↦ w.0
        | inr o ↦ elim o [ inl w ↦ omega (arith, w.0) | inr w ↦ omega (arith, w.0) ]
      ]

  pub live_below : (a : ℕ) → is_live_at g h t s e a ≡ true → a < e
  live_below a live =
      elim (live_parts g h t s e a live) [
        | inl w ↦ omega (arith, w.1)
        | inr o ↦ elim o [ inl w ↦ omega (arith, w.1) | inr w ↦ w.1 ]
      ]

  pub not_in_gap : (a : ℕ) → is_live_at g h t s e a ≡ true → g ≤ a → a < h → ⊥
  not_in_gap a live from to =
      elim (live_parts g h t s e a live) [
        | inl w ↦ omega (arith, w.1)
        | inr o ↦ elim o [ inl w ↦ omega (arith, w.0) | inr w ↦ omega (arith, w.0) ]
      ]

  pub not_in_other : (a : ℕ) → is_live_at g h t s e a ≡ true → t ≤ a → a < s → ⊥
  not_in_other a live from to =
      elim (live_parts g h t s e a live) [
        | inl w ↦ omega (arith, w.1)
        | inr o ↦ elim o [ inl w ↦ omega (arith, w.1) | inr w ↦ omega (arith, w.0) ]
      ]

  pub live_globals : (a : ℕ) → 4096 ≤ a → a < g → is_live_at g h t s e a ≡ true
  live_globals a above below = or_left (is_between 4096 g a) (is_between h t a || is_between s e a) (between_by 4096 g a above below)

  pub live_heap : (a : ℕ) → h ≤ a → a < t → is_live_at g h t s e a ≡ true
  live_heap a above below = or_right (is_between 4096 g a) (is_between h t a || is_between s e a) (or_left (is_between h t a) (is_between s e a) (between_by h t a above below))

  pub live_stack : (a : ℕ) → s ≤ a → a < e → is_live_at g h t s e a ≡ true
  live_stack a above below = or_right (is_between 4096 g a) (is_between h t a || is_between s e a) (or_right (is_between h t a) (is_between s e a) (between_by s e a above below))

  gap_parts : (first end from to : ℕ) → meets_gap first end from to ≡ true → (first < end) × (from < end) × (first < to)
  gap_parts first end from to meets =
      let parts = and_parts (nat_lt first end) (nat_lt from end && nat_lt first to) meets in
      let others = and_parts (nat_lt from end) (nat_lt first to) parts.1 in
      (ltb-true first end parts.0, ltb-true from end others.0, ltb-true first to others.1)

  gap_by : (first end from to : ℕ) → first < end → from < end → first < to → meets_gap first end from to ≡ true
  gap_by first end from to some before behind =
      and_from (nat_lt first end) (nat_lt from end && nat_lt first to) (lt-ltb first end some)
      (and_from (nat_lt from end) (nat_lt first to) (lt-ltb from end before) (lt-ltb first to behind))

  module _ (test : ℕ → Bool) (same : (a : ℕ) → test a ≡ is_live_at g h t s e a) where
    range_live : (address n : ℕ) → is_range g h t s e address (address + n) ≡ true → all_from test address n ≡ true
    range_live address n is =
        let near = nat_le 4096 address && nat_le (address + n) e in
        let clear = not (meets_gap g h address (address + n)) && not (meets_gap t s address (address + n)) in
        let parts = and_parts near clear is in
        let p1 = and_parts (nat_le 4096 address) (nat_le (address + n) e) parts.0 in
        let p3 = and_parts (not (meets_gap g h address (address + n))) (not (meets_gap t s address (address + n))) parts.1 in
        let above = leb-true 4096 address p1.0 in
        let below = leb-true (address + n) e p1.1 in
        all_by test address n (λ a from to. same a ∙ by_cases a (omega arith) (omega arith)
        (λ behind before. not_gives (meets_gap g h address (address + n)) p3.0 (gap_by g h address (address + n) (omega arith) (omega arith) (omega arith)))
        (λ behind before. not_gives (meets_gap t s address (address + n)) p3.1 (gap_by t s address (address + n) (omega arith) (omega arith) (omega arith))))
      where
        by_cases : (a : ℕ) → 4096 ≤ a → a < e → (g ≤ a → a < h → ⊥) → (t ≤ a → a < s → ⊥) → is_live_at g h t s e a ≡ true
        by_cases a above below none other =
            elim (cases_lt a g) [
              | inl small ↦ live_globals a above small
              | inr big ↦ elim (cases_lt a h) [
                | inl small ↦ absurd (none big small)
                | inr more ↦ elim (cases_lt a t) [
                  | inl small ↦ live_heap a more small
                  | inr over ↦ elim (cases_lt a s) [
                    | inl small ↦ absurd (other over small)
                    | inr last ↦ live_stack a last below
                  ]
                ]
              ]
            ]

    live_range : (address n : ℕ) → 1 ≤ n → all_from test address n ≡ true → is_range g h t s e address (address + n) ≡ true
    live_range address n some all =
        let each : (a : ℕ) → address ≤ a → a < address + n → is_live_at g h t s e a ≡ true = λ a from to. sym (same a) ∙ all_gives test address n all a from to in
        let above : 4096 ≤ address = live_above address (each address (omega arith) (omega arith)) in
        let last : address + (n - 1) < e = live_below (address + (n - 1)) (each (address + (n - 1)) (omega arith) (omega arith)) in
        and_from (nat_le 4096 address && nat_le (address + n) e) (not (meets_gap g h address (address + n)) && not (meets_gap t s address (address + n)))
        (and_from (nat_le 4096 address) (nat_le (address + n) e) (le-leb 4096 address above) (le-leb (address + n) e (omega arith)))
        (and_from (not (meets_gap g h address (address + n))) (not (meets_gap t s address (address + n)))
        (not_by (meets_gap g h address (address + n)) (λ meets.
        let w = gap_parts g h address (address + n) meets in
        not_in_gap (max address g) (each (max address g) (omega arith) (omega (arith, w.2))) (omega arith) (omega (arith, w.0, w.1))))
        (not_by (meets_gap t s address (address + n)) (λ meets.
        let w = gap_parts t s address (address + n) meets in
        not_in_other (max address t) (each (max address t) (omega arith) (omega (arith, w.2))) (omega arith) (omega (arith, w.0, w.1)))))

    -- So many bytes are live exactly where they begin at the first global or behind it, end at the end or before, and meet neither gap.
    pub live_is_range : (address n : ℕ) → 1 ≤ n → all_from test address n ≡ is_range g h t s e address (address + n)
    live_is_range address n some = same_bool (all_from test address n) (is_range g h t s e address (address + n)) (live_range address n some) (range_live address n)
