-- Windows that are marked and unmarked, and what pages say of them.
use Rattle.std.proofs.Common.{◌≡◌, ℕ, zero, suc, ◌+◌, ◌-◌, ◌*◌, ◌/◌, ◌≤◌, ◌<◌, max, true, false, not, ◌||◌, List, [], ◌∷◌, ◌++◌, length, slice_index, replicate, nat_lt, refl, ap, sym, subst, ◌∙◌, arith, ◌⊎◌, inl, inr}
use Rattle.std.specs.List.{list_any, AllByRecursion}
use Rattle.std.proofs.lemmas.Bool.{and_parts, and_from, or_cases, or_left, or_right, cases_lt, false_from_ne_true, ltb-true, lt-ltb, not-true}
use Rattle.std.proofs.lemmas.List.{get_or-replicate, length-replicate}
use Rattle.css_semantics.specs.Memory.{all_from}
use Rattle.css_semantics.specs.Tasks.{Window}
use Rattle.css_semantics.specs.Rules.{share_byte}
use Rattle.css_semantics.specs.WindowRanges.{row_meets, rows_meet}
use Rattle.css_semantics.proofs.Windows.{apart-sym}
use Rattle.css_memory.specs.Pages.{page_of, is_on, touches, shared, rows_between, bytes_on, all_on, RowsEnd, IsWithin, IsApart, AreDisjoint, AreMarked}
use Rattle.css_memory.proofs.Ranges.{all_gives, all_by}
use Rattle.css_memory.proofs.Counts.{page_bound}

-- ---- lists of windows

module _ (P : Window → Type 0) where
  all_one_less : (before : List Window) (w : Window) (after : List Window) → AllByRecursion P (before ++ w ∷ after) → P w × AllByRecursion P (before ++ after)
  all_one_less [] w after all = (all.0, all.1)
  all_one_less (v ∷ before) w after all =
      let rest = all_one_less before w after all.1 in
      (rest.0, (all.0, rest.1))

  all_one_more : (before : List Window) (w : Window) (after : List Window) → P w → AllByRecursion P (before ++ after) → AllByRecursion P (before ++ w ∷ after)
  all_one_more [] w after here all = (here, all)
  all_one_more (v ∷ before) w after here all = (all.0, all_one_more before w after here all.1)

disjoint_one_less : (before : List Window) (w : Window) (after : List Window) → AreDisjoint (before ++ w ∷ after) → AreDisjoint (before ++ after)
disjoint_one_less [] w after apart = apart.1
disjoint_one_less (v ∷ before) w after apart =
    ((all_one_less (λ x. share_byte x v ≡ false) before w after apart.0).1, disjoint_one_less before w after apart.1)

disjoint_one_more : (before : List Window) (w : Window) (after : List Window) → IsApart (before ++ after) w → AreDisjoint (before ++ after) → AreDisjoint (before ++ w ∷ after)
disjoint_one_more [] w after clear apart = (clear, apart)
disjoint_one_more (v ∷ before) w after clear apart =
    (all_one_more (λ x. share_byte x v ≡ false) before w after (apart-sym v w clear.0) apart.0, disjoint_one_more before w after clear.1 apart.1)

on_one_more : (page : ℕ) (before : List Window) (w : Window) (after : List Window) → all_on page (before ++ w ∷ after) ≡ all_on page (before ++ after) + bytes_on page w
on_one_more page [] w after = omega arith
on_one_more page (v ∷ before) w after = omega (arith, on_one_more page before w after)

within_size : (size size' : ℕ) (windows : List Window) → size' ≡ size → AllByRecursion (IsWithin size) windows → AllByRecursion (IsWithin size') windows
within_size size size' windows is all = subst (λ (n : ℕ). AllByRecursion (IsWithin n) windows) (sym is) all

-- ---- marks

pub marked_more : (pages pages' : List ℕ) (before : List Window) (w : Window) (after : List Window) → AreMarked pages (before ++ after) → IsApart (before ++ after) w
    → IsWithin (4096 * length pages) w → length pages' ≡ length pages
    → ((page : ℕ) → page < length pages → slice_index pages' page ≡ slice_index pages page + bytes_on page w)
    → AreMarked pages' (before ++ w ∷ after)
marked_more pages pages' before w after marked clear within same grown = record {
  bytes = λ page below. omega (arith, grown page (omega (arith, same)), marked.bytes page (omega (arith, same)), on_one_more page before w after);
  within = within_size (4096 * length pages) (4096 * length pages') (before ++ w ∷ after) (ap (λ n. 4096 * n) same) (all_one_more (IsWithin (4096 * length pages)) before w after within marked.within);
  apart = disjoint_one_more before w after clear marked.apart;
}

pub marked_less : (pages pages' : List ℕ) (before : List Window) (w : Window) (after : List Window) → AreMarked pages (before ++ w ∷ after) → length pages' ≡ length pages
    → ((page : ℕ) → page < length pages → slice_index pages' page + bytes_on page w ≡ slice_index pages page)
    → AreMarked pages' (before ++ after)
marked_less pages pages' before w after marked same shrunk = record {
  bytes = λ page below. omega (arith, shrunk page (omega (arith, same)), marked.bytes page (omega (arith, same)), on_one_more page before w after);
  within = within_size (4096 * length pages) (4096 * length pages') (before ++ after) (ap (λ n. 4096 * n) same) (all_one_less (IsWithin (4096 * length pages)) before w after marked.within).1;
  apart = disjoint_one_less before w after marked.apart;
}

-- a window that shares no byte with those that are marked finds room on each page
pub fits : (pages : List ℕ) (marked : List Window) (w : Window) → AreMarked pages marked → IsApart marked w → IsWithin (4096 * length pages) w
    → (page : ℕ) → page < length pages → slice_index pages page + bytes_on page w ≤ 4096
fits pages marked w are clear within page below =
    omega (arith, are.bytes page below, page_bound (4096 * length pages) page (w ∷ marked) (within, are.within) (clear, are.apart))

-- and one that is marked has its bytes there
pub enough : (pages : List ℕ) (before : List Window) (w : Window) (after : List Window) → AreMarked pages (before ++ w ∷ after)
    → (page : ℕ) → page < length pages → bytes_on page w ≤ slice_index pages page
enough pages before w after are page below = omega (arith, are.bytes page below, on_one_more page before w after)

pub marked_within : (pages : List ℕ) (before : List Window) (w : Window) (after : List Window) → AreMarked pages (before ++ w ∷ after) → IsWithin (4096 * length pages) w
marked_within pages before w after are = (all_one_less (IsWithin (4096 * length pages)) before w after are.within).0

pub none_marked : (n : ℕ) → AreMarked (replicate n 0) []
none_marked n = record {
  bytes = λ page below. get_or-replicate n page 0 0 (omega (arith, length-replicate {A = ℕ} n 0));
  within = tt;
  apart = tt;
}

-- ---- windows on pages

row_on : (base width from : ℕ) → 1 ≤ width → row_meets base width from (from + 4096) ≡ true → 1 ≤ shared base (base + width) from (from + 4096)
row_on base width from some meets =
    let parts = and_parts (nat_lt base (from + 4096)) (nat_lt from (base + width)) meets in
    omega (arith, ltb-true base (from + 4096) parts.0, ltb-true from (base + width) parts.1)

on_row : (base width from : ℕ) → 1 ≤ shared base (base + width) from (from + 4096) → row_meets base width from (from + 4096) ≡ true
on_row base width from some =
    and_from (nat_lt base (from + 4096)) (nat_lt from (base + width)) (lt-ltb base (from + 4096) (omega arith)) (lt-ltb from (base + width) (omega arith))

rows_on : (rows base width stride from : ℕ) → 1 ≤ width → rows_meet rows base width stride from (from + 4096) ≡ true → 1 ≤ rows_between rows base width stride from (from + 4096)
rows_on zero base width stride from some meets = absurd (cc)
rows_on (suc rows) base width stride from some meets =
    elim (or_cases (row_meets base width from (from + 4096)) (rows_meet rows (base + stride) width stride from (from + 4096)) meets) [
      | inl here ↦ omega (arith, row_on base width from some here)
      | inr later ↦ omega (arith, rows_on rows (base + stride) width stride from some later)
    ]

one_of_sum : (a b : ℕ) → 1 ≤ a + b → (1 ≤ a) ⊎ (1 ≤ b)
one_of_sum zero b some = inr (omega arith)
one_of_sum (suc a) b some = inl (omega arith)

on_rows : (rows base width stride from : ℕ) → 1 ≤ rows_between rows base width stride from (from + 4096) → rows_meet rows base width stride from (from + 4096) ≡ true
on_rows zero base width stride from some = absurd (omega arith)
on_rows (suc rows) base width stride from some =
    elim (one_of_sum (shared base (base + width) from (from + 4096)) (rows_between rows (base + stride) width stride from (from + 4096)) some) [
      | inl here ↦ or_left (row_meets base width from (from + 4096)) (rows_meet rows (base + stride) width stride from (from + 4096)) (on_row base width from here)
      | inr later ↦ or_right (row_meets base width from (from + 4096)) (rows_meet rows (base + stride) width stride from (from + 4096)) (on_rows rows (base + stride) width stride from later)
    ]

any_on : (size page : ℕ) (windows : List Window) → AllByRecursion (IsWithin size) windows → list_any (is_on page) windows ≡ true → 1 ≤ all_on page windows
any_on size page [] within any = absurd (cc)
any_on size page (w ∷ windows) within any =
    elim (or_cases (is_on page w) (list_any (is_on page) windows) any) [
      | inl here ↦ omega (arith, rows_on w.rows w.base w.width w.stride (4096 * page) within.0.0.width here)
      | inr later ↦ omega (arith, any_on size page windows within.1 later)
    ]

on_any : (page : ℕ) (windows : List Window) → 1 ≤ all_on page windows → list_any (is_on page) windows ≡ true
on_any page [] some = absurd (omega arith)
on_any page (w ∷ windows) some =
    elim (one_of_sum (bytes_on page w) (all_on page windows) some) [
      | inl here ↦ or_left (is_on page w) (list_any (is_on page) windows) (on_rows w.rows w.base w.width w.stride (4096 * page) here)
      | inr later ↦ or_right (is_on page w) (list_any (is_on page) windows) (on_any page windows later)
    ]

-- no page behind the last one has a byte
rows_end : (size rows base width stride from : ℕ) → RowsEnd size rows base width stride → size ≤ from → rows_meet rows base width stride from (from + 4096) ≡ false
rows_end size zero base width stride from ends behind = refl
rows_end size (suc rows) base width stride from ends behind =
    false_from_ne_true (row_meets base width from (from + 4096) || rows_meet rows (base + stride) width stride from (from + 4096)) (λ one.
    elim (or_cases (row_meets base width from (from + 4096)) (rows_meet rows (base + stride) width stride from (from + 4096)) one) [
      | inl here ↦
          let parts = and_parts (nat_lt base (from + 4096)) (nat_lt from (base + width)) here in
          omega (arith, ltb-true from (base + width) parts.1, ends.0)
      | inr later ↦ cc (rows_end size rows (base + stride) width stride from ends.1 behind)
    ])

none_behind : (size page : ℕ) (windows : List Window) → AllByRecursion (IsWithin size) windows → size ≤ 4096 * page → list_any (is_on page) windows ≡ false
none_behind size page [] within behind = refl
none_behind size page (w ∷ windows) within behind =
    let here = rows_end size w.rows w.base w.width w.stride (4096 * page) within.0.1 behind in
    let later = none_behind size page windows within.1 behind in
    rw (here, later) refl

module _ (pages : List ℕ) (marked : List Window) (are : AreMarked pages marked) (address n first last : ℕ) (some : 1 ≤ n)
    (is_first : first ≡ address / 4096) (is_last : last ≡ (address + n - 1) / 4096) where
  pub does_touch : (page : ℕ) → first ≤ page → page ≤ last → page < length pages → 1 ≤ slice_index pages page → touches marked address n ≡ true
  does_touch page above below within bytes =
      let on : list_any (is_on page) marked ≡ true = on_any page marked (omega (arith, are.bytes page within)) in
      let at = max address (4096 * page) in
      let here : page_of at ≡ page = omega arith in
      let found : list_any (is_on (page_of at)) marked ≡ true = ap (λ p. list_any (is_on p) marked) here ∙ on in
      ap not (false_from_ne_true (all_from (λ a. not (list_any (is_on (page_of a)) marked)) address n)
      (λ all. let none = all_gives (λ a. not (list_any (is_on (page_of a)) marked)) address n all at (omega arith) (omega arith) in
      cc (not-true (list_any (is_on (page_of at)) marked) none)))

  no_page : (a page : ℕ) → page ≡ page_of a → address ≤ a → a < address + n → ((page : ℕ) → first ≤ page → page ≤ last → page < length pages → slice_index pages page ≡ 0) → list_any (is_on page) marked ≡ false
  no_page a page is above below none =
      false_from_ne_true (list_any (is_on page) marked) (λ any.
      let bytes = any_on (4096 * length pages) page marked are.within any in
      elim (cases_lt page (length pages)) [
        | inl within ↦ omega (arith, are.bytes page within, none page (omega arith) (omega arith) within)
        | inr behind ↦ cc (none_behind (4096 * length pages) page marked are.within (omega arith))
      ])

  pub touches_none : ((page : ℕ) → first ≤ page → page ≤ last → page < length pages → slice_index pages page ≡ 0) → touches marked address n ≡ false
  touches_none none =
      ap not (all_by (λ a. not (list_any (is_on (page_of a)) marked)) address n
      (λ a above below. ap not (no_page a (page_of a) refl above below none)))
