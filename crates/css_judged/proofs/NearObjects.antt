-- Which of some objects some bytes meet, where each is one row.
use Rattle.std.proofs.Common.{◌≡◌, ℕ, zero, suc, ◌+◌, ◌≤◌, ◌<◌, Bool, true, false, not, ◌&&◌, ◌||◌, List, [], ◌∷◌, ◌++◌, length, take, drop, map, filter, get_or, set, max, min, nat_lt, All, ◌⊎◌, inl, inr, refl, ap, sym, subst, ◌∙◌, arith, add-one, if◌then◌else◌}
use Rattle.std.specs.List.{list_any}
use Rattle.std.proofs.Math.Seq.{drop-cons}
use Rattle.std.proofs.lemmas.Bool.Decides.{nat_tests}
use Rattle.std.proofs.lemmas.List.{take_all}
use Rattle.std.proofs.lemmas.List.Elements.{All-nil, All-cons, All-head, All-tail, All-weaker}
use Rattle.std.proofs.lemmas.List.Folds.{list_any_none}
use Rattle.css_semantics.specs.Memory.{all_from}
use Rattle.css_semantics.specs.Pending.{Object, some_from, is_named_by, with_argument, without_stored}
use Rattle.css_semantics.specs.Rules.{meets, overlap}
use Rattle.css_semantics.specs.Tasks.{Window, plain, has_byte, is_same_window}
use Rattle.css_judged.specs.declared.objects.Pending.{Pending}
use Rattle.css_judged.specs.Judged.{plain_argument}
use Rattle.css_judged.specs.Objects.{object, IsBetween, as_row, is_left}

-- ---- one row

or_true : (b : Bool) → (b || true) ≡ true
or_true true = refl
or_true false = refl

not_or : (a b : Bool) → not (not a && b) ≡ (a || not b)
not_or true b = refl
not_or false b = refl

-- the bytes of one row and so many from an address
pub row_met : (base width address count : ℕ) → some_from (has_byte (plain base width)) address count ≡ nat_lt (max base address) (min (base + width) (address + count))
row_met base width address zero = grind (arith, nat_tests)
row_met base width address (suc count) =
    not_or (has_byte (plain base width) address) (all_from (λ a. not (has_byte (plain base width) a)) (address + 1) count)
    ∙ ap (λ b. has_byte (plain base width) address || b) (row_met base width (address + 1) count)
    ∙ grind (arith, nat_tests)

-- a row that ends before the address, or begins behind the bytes
pub row_apart : (base width low high address count : ℕ) → low ≤ base → base + width ≤ high → (high ≤ address) ⊎ (address + count ≤ low) → some_from (has_byte (plain base width)) address count ≡ false
row_apart base width low high address count above below (inl before) = row_met base width address count ∙ grind (arith, nat_tests)
row_apart base width low high address count above below (inr behind) = row_met base width address count ∙ grind (arith, nat_tests)

-- ---- all of them

abbrev IsApart : (address count : ℕ) → Object → Type 0
IsApart address count o = some_from (has_byte o.window) address count ≡ false

all_apart : (low high address count : ℕ) (items : List Pending) → All (IsBetween low high) items → (high ≤ address) ⊎ (address + count ≤ low) → All (IsApart address count) (map object items)
all_apart low high address count [] within out = All-nil (IsApart address count)
all_apart low high address count (p ∷ items) within out =
    let here = All-head (IsBetween low high) p items within in
    All-cons (IsApart address count) (object p) (map object items)
    (row_apart p.base p.width low high address count here.0 here.1 out)
    (all_apart low high address count items (All-tail (IsBetween low high) p items within) out)

pub items_apart : (low high address count : ℕ) (items : List Pending) (objects : List Object) → All (IsBetween low high) items → map object items ≡ objects → (high ≤ address) ⊎ (address + count ≤ low) → All (IsApart address count) objects
items_apart low high address count items objects within view out = subst (All (IsApart address count)) view (all_apart low high address count items within out)

and_false : (a b : Bool) → b ≡ false → (a && b) ≡ false
and_false true b is = is
and_false false b is = refl

pub none_met : (which : Object → Bool) (objects : List Object) (address count : ℕ) → All (IsApart address count) objects → meets which objects address count ≡ false
none_met which objects address count apart =
    list_any_none (λ o. which o && some_from (has_byte o.window) address count) objects
    (All-weaker (IsApart address count) (λ o. (which o && some_from (has_byte o.window) address count) ≡ false) (λ o is. and_false (which o) (some_from (has_byte o.window) address count) is) objects apart)

-- ---- a loop over them

-- what stands at no place
abbrev pub nothing : Pending
nothing = record { base = 0; width = 0; is_written = false }

module _ {X Y : Type 0} (f : X → Y) (test : Y → Bool) where
  pub any_found : (xs : List X) (i : ℕ) (d : X) → i < length xs → test (f (get_or xs i d)) ≡ true → list_any test (map f xs) ≡ true
  any_found [] i d below is = absurd (omega arith)
  any_found (x ∷ xs) zero d below is = rw is
  any_found (x ∷ xs) (suc i) d below is = ap (λ b. test (f x) || b) (any_found xs i d (omega (arith, below)) is) ∙ or_true (test (f x))

  pub any_passed : (xs : List X) (i : ℕ) (d : X) → i < length xs → test (f (get_or xs i d)) ≡ false → list_any test (map f (drop (i + 1) xs)) ≡ list_any test (map f (drop i xs))
  any_passed xs i d below is = rw (drop-cons xs i d below, is, add-one)

-- ---- the row of a plain task

and_true : (a : Bool) → (a && true) ≡ a
and_true true = refl
and_true false = refl

-- what overlaps it
pub overlap_is : (base : ℕ) (w : Window) → overlap (plain base 4) w ≡ (some_from (has_byte w) base 4 && not (is_same_window (plain base 4) w))
overlap_is base w = ap (λ b. not b && not (is_same_window (plain base 4) w)) (and_true (all_from (λ a. not (has_byte w a)) base 4))

pub none_overlap : (base : ℕ) (objects : List Object) → All (IsApart base 4) objects → list_any (λ o. overlap (plain base 4) o.window) objects ≡ false
none_overlap base objects apart =
    list_any_none (λ o. overlap (plain base 4) o.window) objects
    (All-weaker (IsApart base 4) (λ o. overlap (plain base 4) o.window ≡ false) (λ o is. overlap_is base o.window ∙ ap (λ b. b && not (is_same_window (plain base 4) o.window)) is) objects apart)

-- objects that are such a row may be written from now on
named : (base : ℕ) (p : Pending) (same : Bool) → object (if same then record p { is_written = true } else p) ≡ (if same then record (object p) { is_written = p.is_written || true } else object p)
named base p true = ap (λ b. record (object p) { is_written = b }) (sym (or_true p.is_written))
named base p false = refl

abbrev marked : ℕ → Object → Object
marked base o = if is_named_by (plain_argument base) o then record o { is_written = o.is_written || true } else o

all_marked : (base : ℕ) (items : List Pending) → map object (map (as_row base) items) ≡ map (marked base) (map object items)
all_marked base [] = refl
all_marked base (p ∷ items) = rw (named base p (is_same_window (plain base 4) (plain p.base p.width)), all_marked base items)

pub with_old : (base : ℕ) (items : List Pending) (objects : List Object) → map object items ≡ objects → list_any (is_named_by (plain_argument base)) (map object items) ≡ true → map object (map (as_row base) items) ≡ with_argument objects (plain_argument base)
with_old base items objects view old =
    all_marked base items
    ∙ sym (ap (λ b. if b then map (marked base) (map object items) else map object items ++ record { window = plain base 4; is_written = true } ∷ []) old)
    ∙ ap (λ os. with_argument os (plain_argument base)) view

between_if : (low high base : ℕ) (p : Pending) (same : Bool) → IsBetween low high p → IsBetween low high (if same then record p { is_written = true } else p)
between_if low high base p true within = within
between_if low high base p false within = within

pub rows_between : (low high base : ℕ) (items : List Pending) → All (IsBetween low high) items → All (IsBetween low high) (map (as_row base) items)
rows_between low high base [] within = All-nil (IsBetween low high)
rows_between low high base (p ∷ items) within =
    All-cons (IsBetween low high) (as_row base p) (map (as_row base) items)
    (between_if low high base p (is_same_window (plain base 4) (plain p.base p.width)) (All-head (IsBetween low high) p items within))
    (rows_between low high base items (All-tail (IsBetween low high) p items within))

pub row_marked : (base : ℕ) (p : Pending) → is_same_window (plain base 4) (plain p.base p.width) ≡ true → record p { is_written = true } ≡ as_row base p
row_marked base p same = sym (ap (λ b. if b then record p { is_written = true } else p) same)

pub row_kept : (base : ℕ) (p : Pending) → is_same_window (plain base 4) (plain p.base p.width) ≡ false → p ≡ as_row base p
row_kept base p other = sym (ap (λ b. if b then record p { is_written = true } else p) other)

-- one more of them
marked_at : {X : Type 0} (f : X → X) (xs : List X) (i : ℕ) (d : X) → i < length xs
    → set (map f (take i xs) ++ drop i xs) i (f (get_or (map f (take i xs) ++ drop i xs) i d)) ≡ map f (take (i + 1) xs) ++ drop (i + 1) xs
marked_at f [] i d below = absurd (omega arith)
marked_at f (x ∷ xs) zero d below = refl
marked_at f (x ∷ xs) (suc i) d below =
    let next : suc i + 1 ≡ suc (i + 1) = omega arith in
    rw next (ap (λ zs. f x ∷ zs) (marked_at f xs i d (omega (arith, below))))

pub one_marked : {X : Type 0} (f : X → X) (xs ys : List X) (i : ℕ) (d new : X) → i < length xs → ys ≡ map f (take i xs) ++ drop i xs → new ≡ f (get_or ys i d)
    → set ys i new ≡ map f (take (i + 1) xs) ++ drop (i + 1) xs
one_marked f xs ys i d new below is marked =
    ap (λ x. set ys i x) marked ∙ ap (λ zs. set zs i (f (get_or zs i d))) is ∙ marked_at f xs i d below

-- ---- bounds

-- bounds of the objects before one, and of it
pub bounds_more : (low high low' high' : ℕ) (items : List Pending) (i : ℕ) → i < length items → All (IsBetween low high) (take i items) → low' ≤ low → high ≤ high'
    → IsBetween low' high' (get_or items i nothing) → All (IsBetween low' high') (take (i + 1) items)
bounds_more low high low' high' [] i below before lower higher here = absurd (omega arith)
bounds_more low high low' high' (p ∷ items) zero below before lower higher here = All-cons (IsBetween low' high') p [] here (All-nil (IsBetween low' high'))
bounds_more low high low' high' (p ∷ items) (suc i) below before lower higher here =
    let next : suc i + 1 ≡ suc (i + 1) = omega arith in
    let head = All-head (IsBetween low high) p (take i items) before in
    rw next
    (All-cons (IsBetween low' high') p (take (i + 1) items) (omega (arith, head.0, lower), omega (arith, head.1, higher))
    (bounds_more low high low' high' items i (omega (arith, below)) (All-tail (IsBetween low high) p (take i items) before) lower higher here))

pub bounds_all : (low high : ℕ) (items : List Pending) (i : ℕ) → length items ≤ i → All (IsBetween low high) (take i items) → All (IsBetween low high) items
bounds_all low high items i whole before = subst (All (IsBetween low high)) (take_all i items whole) before

-- ---- objects that main stores into

kept_if : (address count : ℕ) (p : Pending) (items : List Pending) (b : Bool) → map object (filter (λ p. is_left p address count) items) ≡ without_stored (map object items) address count
    → map object (if b then p ∷ filter (λ p. is_left p address count) items else filter (λ p. is_left p address count) items) ≡ (if b then object p ∷ without_stored (map object items) address count else without_stored (map object items) address count)
kept_if address count p items true rest = ap (λ os. object p ∷ os) rest
kept_if address count p items false rest = rest

pub filtered : (address count : ℕ) (items : List Pending) → map object (filter (λ p. is_left p address count) items) ≡ without_stored (map object items) address count
filtered address count [] = refl
filtered address count (p ∷ items) = kept_if address count p items (is_left p address count) (filtered address count items)

pub all_left : (objects : List Object) (address count : ℕ) → All (IsApart address count) objects → objects ≡ without_stored objects address count
all_left [] address count apart = refl
all_left (o ∷ objects) address count apart =
    let here = All-head (IsApart address count) o objects apart in
    let keep : (o.is_written || not (some_from (has_byte o.window) address count)) ≡ true = ap (λ b. o.is_written || not b) here ∙ or_true o.is_written in
    rw keep (ap (λ os. o ∷ os) (all_left objects address count (All-tail (IsApart address count) o objects apart)))
