-- How many of some addresses pass a test: the bytes that windows have between two addresses.
use Rattle.std.proofs.Common.{◌≡◌, ℕ, zero, suc, ◌+◌, ◌*◌, ◌≤◌, Bool, true, false, ◌||◌, List, [], ◌∷◌, refl, ap, sym, ◌∙◌, arith, inl, inr}
use Rattle.std.specs.List.{AllByRecursion}
use Rattle.std.proofs.lemmas.Bool.{or_cases, false_from_ne_true, cases_lt}
use Rattle.css_semantics.specs.Memory.{is_between}
use Rattle.css_semantics.specs.Tasks.{Window, rows_have, has_byte}
use Rattle.css_semantics.proofs.WindowRanges.{have_gives}
use Rattle.css_semantics.proofs.Windows.{apart_gives}
use Rattle.css_memory.specs.Pages.{shared, rows_between, bytes_on, all_on, IsWithin, IsApart, AreDisjoint}
use Rattle.css_memory.proofs.Ranges.{between_parts, between_by}

abbrev one : Bool → ℕ
one true = 1
one false = 0

-- of so many addresses from one on, how many pass
unfoldable count_from : (ℕ → Bool) → (from n : ℕ) → ℕ
count_from test from zero = 0
count_from test from (suc n) = one (test from) + count_from test (from + 1) n

one_at_most : (b : Bool) → one b ≤ 1
one_at_most true = omega arith
one_at_most false = omega arith

count_at_most : (test : ℕ → Bool) (from n : ℕ) → count_from test from n ≤ n
unfolding count_from
count_at_most test from zero = omega arith
count_at_most test from (suc n) = omega (arith, one_at_most (test from), count_at_most test (from + 1) n)

one_or : (a b : Bool) → (a ≡ true → b ≡ false) → one (a || b) ≡ one a + one b
one_or true b apart = ap (λ x. 1 + one x) (sym (apart refl))
one_or false b apart = omega arith

-- of two tests that no address passes both
count_or : (p q : ℕ → Bool) (from n : ℕ) → ((a : ℕ) → p a ≡ true → q a ≡ false) → count_from (λ a. p a || q a) from n ≡ count_from p from n + count_from q from n
unfolding count_from
count_or p q from zero apart = refl
count_or p q from (suc n) apart = omega (arith, one_or (p from) (q from) (apart from), count_or p q (from + 1) n apart)

count_none : (from n : ℕ) → count_from (λ a. false) from n ≡ 0
unfolding count_from
count_none from zero = refl
count_none from (suc n) = omega (arith, count_none (from + 1) n)

one_between : (b e a n : ℕ) → one (is_between b e a) + shared b e (a + 1) (a + 1 + n) ≡ shared b e a (a + suc n)
one_between b e a n =
    elim (cases_lt a b) [
      | inl below ↦ rw (false_from_ne_true (is_between b e a) (λ is. let w = between_parts b e a is in omega (arith, w.0))) (omega arith)
      | inr above ↦ elim (cases_lt a e) [
        | inl inside ↦ rw (between_by b e a above inside) (omega arith)
        | inr behind ↦ rw (false_from_ne_true (is_between b e a) (λ is. let w = between_parts b e a is in omega (arith, w.1))) (omega arith)
      ]
    ]

count_between : (b e from n : ℕ) → count_from (is_between b e) from n ≡ shared b e from (from + n)
unfolding count_from
count_between b e from zero = omega arith
count_between b e from (suc n) = ap (λ k. one (is_between b e from) + k) (count_between b e (from + 1) n) ∙ one_between b e from n

-- rows that each begin behind the one before
count_rows : (rows base width stride from n : ℕ) → width ≤ stride → count_from (rows_have rows base width stride) from n ≡ rows_between rows base width stride from (from + n)
count_rows zero base width stride from n apart = count_none from n
count_rows (suc rows) base width stride from n apart =
    count_or (is_between base (base + width)) (rows_have rows (base + stride) width stride) from n
    (λ a here. false_from_ne_true (rows_have rows (base + stride) width stride a) (λ later.
    let w = between_parts base (base + width) a here in
    let v = have_gives rows (base + stride) width stride a later in
    omega (arith, w.1, v.2)))
    ∙ ap (λ k. k + count_from (rows_have rows (base + stride) width stride) from n) (count_between base (base + width) from n)
    ∙ ap (λ k. shared base (base + width) from (from + n) + k) (count_rows rows (base + stride) width stride from n apart)

abbrev has_any : List Window → ℕ → Bool
has_any [] a = false
has_any (w ∷ windows) a = has_byte w a || has_any windows a

abbrev all_between : List Window → (from to : ℕ) → ℕ
all_between [] from to = 0
all_between (w ∷ windows) from to = rows_between w.rows w.base w.width w.stride from to + all_between windows from to

none_has : (w : Window) (windows : List Window) → IsApart windows w → (a : ℕ) → has_byte w a ≡ true → has_any windows a ≡ false
none_has w [] apart a has = refl
none_has w (v ∷ windows) apart a has =
    false_from_ne_true (has_byte v a || has_any windows a) (λ one.
    elim (or_cases (has_byte v a) (has_any windows a) one) [
      | inl here ↦ cc (apart_gives v w apart.0 a here)
      | inr later ↦ cc (none_has w windows apart.1 a has)
    ])

count_windows : (size : ℕ) (windows : List Window) (from n : ℕ) → AllByRecursion (IsWithin size) windows → AreDisjoint windows
    → count_from (has_any windows) from n ≡ all_between windows from (from + n)
count_windows size [] from n within apart = count_none from n
count_windows size (w ∷ windows) from n within apart =
    count_or (has_byte w) (has_any windows) from n (none_has w windows apart.0)
    ∙ ap (λ k. k + count_from (has_any windows) from n) (count_rows w.rows w.base w.width w.stride from n within.0.0.apart)
    ∙ ap (λ k. rows_between w.rows w.base w.width w.stride from (from + n) + k) (count_windows size windows from n within.1 apart.1)

all_on_between : (page : ℕ) (windows : List Window) → all_on page windows ≡ all_between windows (4096 * page) (4096 * page + 4096)
all_on_between page [] = refl
all_on_between page (w ∷ windows) = ap (λ k. bytes_on page w + k) (all_on_between page windows)

count_bound : (size : ℕ) (windows : List Window) (from n : ℕ) → AllByRecursion (IsWithin size) windows → AreDisjoint windows → all_between windows from (from + n) ≤ n
count_bound size windows from n within apart = omega (arith, count_windows size windows from n within apart, count_at_most (has_any windows) from n)

-- A page has no more bytes than are its own.
pub page_bound : (size page : ℕ) (windows : List Window) → AllByRecursion (IsWithin size) windows → AreDisjoint windows → all_on page windows ≤ 4096
page_bound size page windows within apart = omega (arith, all_on_between page windows, count_bound size windows (4096 * page) 4096 within apart)
