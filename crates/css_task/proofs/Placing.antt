-- Windows that are placed one behind the other, and their flags and bytes.
use Rattle.std.proofs.Common.{◌≡◌, ℕ, zero, suc, ◌+◌, ◌-◌, ◌<◌, ◌≤◌, ◌^◌, Bool, true, false, not, ◌||◌, ◌&&◌, List, [], ◌∷◌, ◌++◌, length, take, drop, replicate, get_or, slice_get, Some, inl, inr, refl, ap, sym, ◌∙◌, append_assoc, zero-add, add-zero, arith, if◌then◌else◌}
use Rattle.std.proofs.lemmas.Bool.{cases_lt}
use Rattle.std.proofs.lemmas.Bool.Decides.{nat_tests}
use Rattle.std.proofs.lemmas.List.{length-append, length-replicate, append-nil, drop-drop, take-append-drop, get_or-replicate, get_or_append_left, get_or-append_right}
use Rattle.std.proofs.lemmas.Option.{slice_get-get_or}
use Rattle.css_base.specs.declared.direction.Direction.TheVariants as directions
use Rattle.css_semantics.specs.Memory.{is_between}
use Rattle.css_semantics.specs.Tasks.{Use, window_length, reads, writes}
use Rattle.css_record.specs.Windows.{window, IsWindow}
use Rattle.css_task.specs.declared.placed.Placed.{Placed}
use Rattle.css_task.specs.Cells.{window_addresses, addresses, flags, before}
use Rattle.css_task.specs.Placing.{use_of, uses_of, ArePlaced}
use Rattle.css_task.specs.GivenBytes.{is_new, left_bytes}
use Rattle.css_task.proofs.Found.{length-window, length-flags}

-- ---- lists at an index

take_at : {X : Type 0} (xs : List X) (i : ℕ) (x : X) → slice_get xs i ≡ Some x → take (i + 1) xs ≡ take i xs ++ x ∷ []
take_at [] i x at = absurd (cc)
take_at (y ∷ xs) zero x at =
    let same : y ≡ x = cc at in
    ap (λ z. z ∷ []) same
take_at (y ∷ xs) (suc i) x at =
    let on : suc i + 1 ≡ suc (i + 1) = omega arith in
    ap (λ k. take k (y ∷ xs)) on ∙ ap (λ rest. y ∷ rest) (take_at xs i x at)

pub drop_at : {X : Type 0} (xs : List X) (i : ℕ) (x : X) → slice_get xs i ≡ Some x → drop i xs ≡ x ∷ drop (i + 1) xs
drop_at [] i x at = absurd (cc)
drop_at (y ∷ xs) zero x at =
    let same : y ≡ x = cc at in
    ap (λ z. z ∷ xs) same
drop_at (y ∷ xs) (suc i) x at =
    let on : suc (i + 1) ≡ suc i + 1 = omega arith in
    drop_at xs i x at ∙ ap (λ k. x ∷ drop k (y ∷ xs)) on

uses_take : (all : List Placed) (i : ℕ) → uses_of (take i all) ≡ take i (uses_of all)
uses_take all zero = refl
uses_take [] (suc i) = refl
uses_take (p ∷ all) (suc i) = ap (λ us. use_of p ∷ us) (uses_take all i)

pub uses_append : (all more : List Placed) → uses_of (all ++ more) ≡ uses_of all ++ uses_of more
uses_append [] more = refl
uses_append (p ∷ all) more = ap (λ us. use_of p ∷ us) (uses_append all more)

pub addresses_append : (us vs : List Use) → addresses (us ++ vs) ≡ addresses us ++ addresses vs
addresses_append [] vs = refl
addresses_append (u ∷ us) vs =
    ap (λ rest. window_addresses u.window ++ rest) (addresses_append us vs) ∙ sym (append_assoc (window_addresses u.window) (addresses us) (addresses vs))

flags_append : (flag : Use → Bool) (us vs : List Use) → flags flag (us ++ vs) ≡ flags flag us ++ flags flag vs
flags_append flag [] vs = refl
flags_append flag (u ∷ us) vs =
    ap (λ rest. replicate (window_length u.window) (flag u) ++ rest) (flags_append flag us vs) ∙ sym (append_assoc (replicate (window_length u.window) (flag u)) (flags flag us) (flags flag vs))

-- one window more
pub length_more : (us : List Use) (u : Use) → length (addresses (us ++ u ∷ [])) ≡ length (addresses us) + window_length u.window
length_more us u =
    omega (
      arith,
      ap (λ xs. length xs) (addresses_append us (u ∷ [])),
      length-append (addresses us) (window_addresses u.window ++ []),
      ap (λ xs. length xs) (append-nil (window_addresses u.window)),
      length-window u.window,
    )

-- ---- as they are placed

-- the first window's bytes begin at an offset, and each other's behind those of the one before
abbrev pub StandFrom : (from : ℕ) → List Placed → Type 0
StandFrom from [] = Unit {0}
StandFrom from (p ∷ all) = (p.first ≡ from) × IsWindow (window p.window) × StandFrom (from + window_length (window p.window)) all

pub stand_more : (from : ℕ) (all : List Placed) (p : Placed) → StandFrom from all → p.first ≡ from + length (addresses (uses_of all)) → IsWindow (window p.window) → StandFrom from (all ++ p ∷ [])
stand_more from [] p stand is wide = (is ∙ add-zero from, wide, tt)
stand_more from (q ∷ all) p stand is wide =
    let further : p.first ≡ from + window_length (window q.window) + length (addresses (uses_of all)) =
    omega (arith, is, length-append (window_addresses (window q.window)) (addresses (uses_of all)), length-window (window q.window)) in
    (stand.0, stand.1, stand_more (from + window_length (window q.window)) all p stand.2 further wide)

first_of : (from : ℕ) (all : List Placed) → StandFrom from all → (j : ℕ) (p : Placed) → slice_get all j ≡ Some p → p.first ≡ from + before (uses_of all) j
first_of from [] stand j p at = absurd (cc)
first_of from (q ∷ all) stand zero p at =
    let same : q ≡ p = cc at in
    ap (λ (p : Placed). p.first) (sym same) ∙ stand.0 ∙ sym (add-zero from)
first_of from (q ∷ all) stand (suc j) p at =
    omega (
      arith,
      first_of (from + window_length (window q.window)) all stand.2 j p at,
      length-append (window_addresses (window q.window)) (addresses (take j (uses_of all))),
      length-window (window q.window),
    )

window_of : (from : ℕ) (all : List Placed) → StandFrom from all → (j : ℕ) (p : Placed) → slice_get all j ≡ Some p → IsWindow (window p.window)
window_of from [] stand j p at = absurd (cc)
window_of from (q ∷ all) stand zero p at =
    let same : q ≡ p = cc at in
    rw (sym same) stand.1
window_of from (q ∷ all) stand (suc j) p at = window_of (from + window_length (window q.window)) all stand.2 j p at

pub are_placed : (all : List Placed) → StandFrom 0 all → length (addresses (uses_of all)) < 2 ^ 63 → ArePlaced all
are_placed all stand small = record {
  windows = window_of 0 all stand;
  firsts = λ j p at. first_of 0 all stand j p at ∙ zero-add (before (uses_of all) j);
  small = small;
}

-- ---- flags behind others

and_false : (b : Bool) → (b && false) ≡ false
and_false true = refl
and_false false = refl

and_true : (b : Bool) → (b && true) ≡ b
and_true true = refl
and_true false = refl

or_false : (b : Bool) → (b || false) ≡ b
or_false true = refl
or_false false = refl

get_or_past : (fs : List Bool) (k : ℕ) → length fs ≤ k → get_or fs k false ≡ false
get_or_past [] k above = refl
get_or_past (f ∷ fs) zero above = absurd (omega (arith, above))
get_or_past (f ∷ fs) (suc k) above = get_or_past fs k (omega (arith, above))

-- the flags of one window behind others
get_row : (from n : ℕ) (b : Bool) (k : ℕ) → from ≤ k → get_or (replicate n b ++ []) (k - from) false ≡ (b && is_between from (from + n) k)
get_row from n b k above =
    ap (λ fs. get_or fs (k - from) false) (append-nil (replicate n b))
    ∙ elim (cases_lt k (from + n)) [
      | inl below ↦
          let inside : is_between from (from + n) k ≡ true = grind (arith, nat_tests) in
          get_or-replicate n (k - from) b false (omega (arith, above, below)) ∙ sym (ap (λ c. b && c) inside ∙ and_true b)
      | inr behind ↦
          let out : is_between from (from + n) k ≡ false = grind (arith, nat_tests) in
          get_or_past (replicate n b) (k - from) (omega (arith, length-replicate {A = Bool} n b, behind)) ∙ sym (ap (λ c. b && c) out ∙ and_false b)
    ]

get_more : (fs : List Bool) (from n : ℕ) (b : Bool) (k : ℕ) → length fs ≡ from → get_or (fs ++ (replicate n b ++ [])) k false ≡ ((b && is_between from (from + n) k) || get_or fs k false)
get_more fs from n b k long =
    elim (cases_lt k from) [
      | inl below ↦
          let out : is_between from (from + n) k ≡ false = grind (arith, nat_tests) in
          get_or_append_left fs (replicate n b ++ []) false k (omega (arith, below, long)) ∙ ap (λ c. c || get_or fs k false) (sym (ap (λ c. b && c) out ∙ and_false b))
      | inr above ↦
          get_or-append_right fs (replicate n b ++ []) from k false long above ∙ get_row from n b k above
          ∙ sym (ap (λ c. (b && is_between from (from + n) k) || c) (get_or_past fs k (omega (arith, long, above))) ∙ or_false (b && is_between from (from + n) k))
    ]

-- ---- one of them

-- the window that stands for none
abbrev pub no_window : Placed
no_window = record { window = record { base = 0; rows = 0; width = 0; stride = 0 }; direction = directions.In; first = 0 }

pub placed_at : (all : List Placed) (i : ℕ) → i < length all → slice_get all i ≡ Some (get_or all i no_window)
placed_at all i below = slice_get-get_or all i no_window below

module _ (all : List Placed) (placed : ArePlaced all) (i : ℕ) (p : Placed) (at : slice_get all i ≡ Some p) where
  abbrev n : ℕ
  n = window_length (window p.window)

  before_is : length (addresses (uses_of (take i all))) ≡ before (uses_of all) i
  before_is = ap (λ us. length (addresses us)) (uses_take all i)

  uses_next : uses_of (take (i + 1) all) ≡ uses_of (take i all) ++ use_of p ∷ []
  uses_next = ap uses_of (take_at all i p at) ∙ uses_append (take i all) (p ∷ [])

  before_next : before (uses_of all) (i + 1) ≡ before (uses_of all) i + n
  before_next =
      ap (λ us. length (addresses us)) (sym (uses_take all (i + 1)) ∙ uses_next)
      ∙ length_more (uses_of (take i all)) (use_of p) ∙ ap (λ k. k + n) before_is

  -- its bytes are some of all
  pub within_all : p.first + n ≤ length (addresses (uses_of all))
  within_all =
      let whole = ap (λ us. length (addresses us)) (take-append-drop (i + 1) (uses_of all)) in
      omega (
        arith,
        placed.firsts i p at,
        before_next,
        whole,
        ap (λ xs. length xs) (addresses_append (take (i + 1) (uses_of all)) (drop (i + 1) (uses_of all))),
        length-append (addresses (take (i + 1) (uses_of all))) (addresses (drop (i + 1) (uses_of all))),
      )

  -- ---- the flags up to it

  flags_next : flags is_new (uses_of (take (i + 1) all)) ≡ flags is_new (uses_of (take i all)) ++ (replicate n (is_new (use_of p)) ++ [])
  flags_next = ap (flags is_new) uses_next ∙ flags_append is_new (uses_of (take i all)) (use_of p ∷ [])

  pub flags_more : (k : ℕ) → get_or (flags is_new (uses_of (take (i + 1) all))) k false ≡ ((is_new (use_of p) && is_between p.first (p.first + n) k) || get_or (flags is_new (uses_of (take i all))) k false)
  flags_more k =
      ap (λ fs. get_or fs k false) flags_next
      ∙ get_more (flags is_new (uses_of (take i all))) p.first n (is_new (use_of p)) k (length-flags is_new (uses_of (take i all)) ∙ before_is ∙ sym (placed.firsts i p at))

  pub flags_set : p.direction ≡ directions.Out → (k : ℕ) → (is_between p.first (p.first + n) k || get_or (flags is_new (uses_of (take i all))) k false) ≡ get_or (flags is_new (uses_of (take (i + 1) all))) k false
  flags_set is k = sym (flags_more k ∙ ap (λ d. (not (reads d) && is_between p.first (p.first + n) k) || get_or (flags is_new (uses_of (take i all))) k false) is)

  pub flags_kept : reads p.direction ≡ true → (k : ℕ) → get_or (flags is_new (uses_of (take i all))) k false ≡ get_or (flags is_new (uses_of (take (i + 1) all))) k false
  flags_kept is k = sym (flags_more k ∙ ap (λ b. (not b && is_between p.first (p.first + n) k) || get_or (flags is_new (uses_of (take i all))) k false) is)

  -- ---- the bytes from it on

  left_by : (b : Bool) (bytes : List ℕ) (rest rest' : List (List ℕ)) → rest ≡ rest' → (if b then take n bytes ∷ rest else rest) ≡ (if b then take n bytes ∷ rest' else rest')
  left_by b bytes rest rest' is = ap (λ rest. if b then take n bytes ∷ rest else rest) is

  pub left_next : (bytes : List ℕ) → left_bytes (uses_of (drop i all)) (drop (before (uses_of all) i) bytes)
      ≡ (if writes p.direction then take n (drop p.first bytes) ∷ left_bytes (uses_of (drop (i + 1) all)) (drop (before (uses_of all) (i + 1)) bytes)
      else left_bytes (uses_of (drop (i + 1) all)) (drop (before (uses_of all) (i + 1)) bytes))
  left_next bytes =
      let more : drop n (drop (before (uses_of all) i) bytes) ≡ drop (before (uses_of all) (i + 1)) bytes = drop-drop n (before (uses_of all) i) bytes ∙ ap (λ k. drop k bytes) (sym before_next) in
      ap (λ ps. left_bytes (uses_of ps) (drop (before (uses_of all) i) bytes)) (drop_at all i p at)
      ∙ left_by (writes p.direction) (drop (before (uses_of all) i) bytes) _ _ (ap (left_bytes (uses_of (drop (i + 1) all))) more)
      ∙ ap (λ k. if writes p.direction then take n (drop k bytes) ∷ left_bytes (uses_of (drop (i + 1) all)) (drop (before (uses_of all) (i + 1)) bytes)
      else left_bytes (uses_of (drop (i + 1) all)) (drop (before (uses_of all) (i + 1)) bytes)) (sym (placed.firsts i p at))

  pub left_written : writes p.direction ≡ true → (outs : List (List ℕ)) (own bytes : List ℕ) (whole : List (List ℕ)) → own ≡ take n (drop p.first bytes)
      → outs ++ left_bytes (uses_of (drop i all)) (drop (before (uses_of all) i) bytes) ≡ whole
      → (outs ++ own ∷ []) ++ left_bytes (uses_of (drop (i + 1) all)) (drop (before (uses_of all) (i + 1)) bytes) ≡ whole
  left_written is outs own bytes whole own_is so_far =
      let rest = left_bytes (uses_of (drop (i + 1) all)) (drop (before (uses_of all) (i + 1)) bytes) in
      append_assoc outs (own ∷ []) rest ∙ ap (λ b. outs ++ b ∷ rest) own_is
      ∙ ap (λ all. outs ++ all) (sym (left_next bytes ∙ ap (λ b. if b then take n (drop p.first bytes) ∷ rest else rest) is)) ∙ so_far

  pub left_fixed : writes p.direction ≡ false → (outs : List (List ℕ)) (bytes : List ℕ) (whole : List (List ℕ))
      → outs ++ left_bytes (uses_of (drop i all)) (drop (before (uses_of all) i) bytes) ≡ whole
      → outs ++ left_bytes (uses_of (drop (i + 1) all)) (drop (before (uses_of all) (i + 1)) bytes) ≡ whole
  left_fixed is outs bytes whole so_far =
      let rest = left_bytes (uses_of (drop (i + 1) all)) (drop (before (uses_of all) (i + 1)) bytes) in
      ap (λ all. outs ++ all) (sym (left_next bytes ∙ ap (λ b. if b then take n (drop p.first bytes) ∷ rest else rest) is)) ∙ so_far
