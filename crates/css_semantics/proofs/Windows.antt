-- Which bytes a window has, and that two windows share one however they are asked.
use Rattle.std.proofs.Common.{◌≡◌, ℕ, zero, suc, ◌+◌, ◌<◌, ◌≤◌, Bool, true, false, not, ◌||◌, nat_le, nat_lt, ◌⊎◌, inl, inr, refl, subst, ap, arith}
use Rattle.std.proofs.Math.Nat.{eq-or-lt_of_le}
use Rattle.std.proofs.lemmas.Bool.{and_parts, and_from, leb-true, ltb-true, le-leb, lt-ltb, not-true, not-false}
use Rattle.css_semantics.specs.Memory.{all_from, is_between}
use Rattle.css_semantics.specs.Tasks.{Window, rows_have, has_byte}
use Rattle.css_semantics.specs.Rules.{all_of_rows, all_of_window, share_byte}

-- one of two tests that hold together
one_of : (a b : Bool) → (a || b) ≡ true → (a ≡ true) ⊎ (b ≡ true)
one_of true b h = inl refl
one_of false b h = inr h

or_left : (a b : Bool) → a ≡ true → (a || b) ≡ true
or_left a b h = ap (λ x. x || b) h

or_right : (a b : Bool) → b ≡ true → (a || b) ≡ true
or_right true b h = refl
or_right false b h = h

between_parts : (from to a : ℕ) → is_between from to a ≡ true → (from ≤ a) × (a < to)
between_parts from to a h =
    let parts = and_parts (nat_le from a) (nat_lt a to) h in
    (leb-true from a parts.0, ltb-true a to parts.1)

between_by : (from to a : ℕ) → from ≤ a → a < to → is_between from to a ≡ true
between_by from to a above below = and_from (nat_le from a) (nat_lt a to) (le-leb from a above) (lt-ltb a to below)

-- ---- a property of each of some bytes

module _ (test : ℕ → Bool) where
  all_from_gives : (from width : ℕ) → all_from test from width ≡ true → (a : ℕ) → from ≤ a → a < from + width → test a ≡ true
  all_from_gives from zero all a above below = absurd (omega arith)
  all_from_gives from (suc width) all a above below =
      let parts = and_parts (test from) (all_from test (from + 1) width) all in
      elim (eq-or-lt_of_le above) [
        | inl same ↦ subst (λ (n : ℕ). test n ≡ true) same parts.0
        | inr more ↦ all_from_gives (from + 1) width parts.1 a (omega arith) (omega arith)
      ]

  all_from_by : (from width : ℕ) → ((a : ℕ) → from ≤ a → a < from + width → test a ≡ true) → all_from test from width ≡ true
  all_from_by from zero each = refl
  all_from_by from (suc width) each =
      and_from (test from) (all_from test (from + 1) width) (each from (omega arith) (omega arith))
      (all_from_by (from + 1) width (λ a above below. each a (omega arith) (omega arith)))

  rows_give : (rows base width stride : ℕ) → all_of_rows test rows base width stride ≡ true → (a : ℕ) → rows_have rows base width stride a ≡ true → test a ≡ true
  rows_give zero base width stride all a has = absurd (cc)
  rows_give (suc rows) base width stride all a has =
      let parts = and_parts (all_from test base width) (all_of_rows test rows (base + stride) width stride) all in
      elim (one_of (is_between base (base + width) a) (rows_have rows (base + stride) width stride a) has) [
        | inl here ↦
            let inside = between_parts base (base + width) a here in
            all_from_gives base width parts.0 a inside.0 inside.1
        | inr later ↦ rows_give rows (base + stride) width stride parts.1 a later
      ]

  rows_by : (rows base width stride : ℕ) → ((a : ℕ) → rows_have rows base width stride a ≡ true → test a ≡ true) → all_of_rows test rows base width stride ≡ true
  rows_by zero base width stride each = refl
  rows_by (suc rows) base width stride each =
      and_from (all_from test base width) (all_of_rows test rows (base + stride) width stride)
      (all_from_by base width (λ a above below. each a (or_left (is_between base (base + width) a) (rows_have rows (base + stride) width stride a) (between_by base (base + width) a above below))))
      (rows_by rows (base + stride) width stride (λ a has. each a (or_right (is_between base (base + width) a) (rows_have rows (base + stride) width stride a) has)))

  -- all bytes of a window have a property where each byte of it has
  pub window_gives : (w : Window) → all_of_window test w ≡ true → (a : ℕ) → has_byte w a ≡ true → test a ≡ true
  window_gives w all a has = rows_give w.rows w.base w.width w.stride all a has

  pub window_by : (w : Window) → ((a : ℕ) → has_byte w a ≡ true → test a ≡ true) → all_of_window test w ≡ true
  window_by w each = rows_by w.rows w.base w.width w.stride each

-- ---- bytes that are shared

-- a byte of one of two windows that share none isn't the other's
pub apart_gives : (v w : Window) → share_byte v w ≡ false → (a : ℕ) → has_byte v a ≡ true → has_byte w a ≡ false
apart_gives v w apart a has =
    not-true (has_byte w a) (window_gives (λ a. not (has_byte w a)) v (not-false (all_of_window (λ a. not (has_byte w a)) v) apart) a has)

apart_at : (v w : Window) → share_byte v w ≡ false → (a : ℕ) → has_byte w a ≡ true → (b : Bool) → has_byte v a ≡ b → not b ≡ true
apart_at v w apart a has true of_v = absurd (cc (apart_gives v w apart a of_v))
apart_at v w apart a has false of_v = refl

pub apart-sym : (v w : Window) → share_byte v w ≡ false → share_byte w v ≡ false
apart-sym v w apart =
    ap not (window_by (λ a. not (has_byte v a)) w (λ a has. apart_at v w apart a has (has_byte v a) refl))
