-- Where the bytes of a task's windows stand among all of them.
use Rattle.std.proofs.Common.{◌≡◌, ℕ, zero, suc, ◌+◌, ◌<◌, Bool, true, false, ◌&&◌, ◌||◌, List, [], ◌∷◌, ◌++◌, length, take, replicate, slice_get, get_or, Option, Some, option_map, ◌==◌, ◌⊎◌, inl, inr, refl, ap, ◌∙◌, arith, if◌then◌else◌}
use Rattle.std.specs.List.{list_any}
use Rattle.std.proofs.lemmas.Bool.{and_parts, and_from, eq-eqb}
use Rattle.std.proofs.lemmas.List.{length-append, length-replicate}
use Rattle.std.proofs.lemmas.Option.{slice_get_within}
use Rattle.css_semantics.specs.Tasks.{Window, Use, window_length, has_byte}
use Rattle.css_task.specs.Cells.{window_addresses, addresses, flags, cell, before}
use Rattle.css_task.specs.Keeping.{listed}
use Rattle.css_task.proofs.Rows.{length-rows, get-left, get-right, found_in}

-- ---- the first place of an address

zero_plus : (n : ℕ) → 0 + n ≡ n
zero_plus n = omega arith

plus_zero : (n : ℕ) → n ≡ n + 0
plus_zero n = omega arith

pub replicate_at : {X : Type 0} (x : X) (n k : ℕ) → k < n → slice_get (replicate n x) k ≡ Some x
replicate_at x zero k below = absurd (omega (arith, below))
replicate_at x (suc n) zero below = refl
replicate_at x (suc n) (suc k) below = replicate_at x n k (omega (arith, below))

some_first : (b : Bool) (o : Option ℕ) → b ≡ true → (k : ℕ) × ((if b then Some 0 else option_map suc o) ≡ Some k)
some_first b o is = (0, ap (λ b. if b then Some 0 else option_map suc o) is)

here_or_behind : (b : Bool) (o : Option ℕ) → ((k : ℕ) × (o ≡ Some k)) → (k : ℕ) × ((if b then Some 0 else option_map suc o) ≡ Some k)
here_or_behind true o found = (0, refl)
here_or_behind false o found = (suc found.0, ap (option_map suc) found.1)

-- what stands somewhere is found
pub cell_found : (all : List ℕ) (k at : ℕ) → slice_get all k ≡ Some at → (i : ℕ) × (cell all at ≡ Some i)
cell_found [] k at is = absurd (cc)
cell_found (a ∷ all) zero at is =
    let same : a ≡ at = cc is in
    some_first (a == at) (cell all at) (eq-eqb a at same)
cell_found (a ∷ all) (suc k) at is = here_or_behind (a == at) (cell all at) (cell_found all k at is)

-- ---- windows

pub length-window : (w : Window) → length (window_addresses w) ≡ window_length w
length-window w = length-rows w.rows w.base w.width w.stride

pub length-flags : (flag : Use → Bool) (uses : List Use) → length (flags flag uses) ≡ length (addresses uses)
length-flags flag [] = refl
length-flags flag (u ∷ uses) =
    omega (
      arith,
      length-append (replicate (window_length u.window) (flag u)) (flags flag uses),
      length-replicate {A = Bool} (window_length u.window) (flag u),
      length-flags flag uses,
      length-append (window_addresses u.window) (addresses uses),
      length-window u.window,
    )

-- the bytes of one of the windows
pub address_in : (uses : List Use) (j : ℕ) (u : Use) (l : ℕ) → slice_get uses j ≡ Some u → l < window_length u.window → slice_get (addresses uses) (before uses j + l) ≡ slice_get (window_addresses u.window) l
address_in [] j u l at below = absurd (cc)
address_in (v ∷ uses) zero u l at below =
    let same : v ≡ u = cc at in
    let long = length-window u.window in
    rw same (ap (slice_get (window_addresses u.window ++ addresses uses)) (zero_plus l) ∙ get-left (window_addresses u.window) (addresses uses) l (omega (arith, long, below)))
address_in (v ∷ uses) (suc j) u l at below =
    let there : length (window_addresses v.window ++ addresses (take j uses)) + l ≡ length (window_addresses v.window) + (before uses j + l) =
    omega (arith, length-append (window_addresses v.window) (addresses (take j uses))) in
    ap (slice_get (window_addresses v.window ++ addresses uses)) there ∙ get-right (window_addresses v.window) (addresses uses) (before uses j + l) ∙ address_in uses j u l at below

pub flag_in : (flag : Use → Bool) (uses : List Use) (j : ℕ) (u : Use) (l : ℕ) → slice_get uses j ≡ Some u → l < window_length u.window → slice_get (flags flag uses) (before uses j + l) ≡ Some (flag u)
flag_in flag [] j u l at below = absurd (cc)
flag_in flag (v ∷ uses) zero u l at below =
    let same : v ≡ u = cc at in
    rw same (ap (slice_get (replicate (window_length u.window) (flag u) ++ flags flag uses)) (zero_plus l)
    ∙ get-left (replicate (window_length u.window) (flag u)) (flags flag uses) l (omega (arith, length-replicate {A = Bool} (window_length u.window) (flag u), below))
    ∙ replicate_at (flag u) (window_length u.window) l below)
flag_in flag (v ∷ uses) (suc j) u l at below =
    let there : length (window_addresses v.window ++ addresses (take j uses)) + l ≡ length (replicate (window_length v.window) (flag v)) + (before uses j + l) =
    omega (arith, length-append (window_addresses v.window) (addresses (take j uses)), length-window v.window, length-replicate {A = Bool} (window_length v.window) (flag v)) in
    ap (slice_get (replicate (window_length v.window) (flag v) ++ flags flag uses)) there
    ∙ get-right (replicate (window_length v.window) (flag v)) (flags flag uses) (before uses j + l) ∙ flag_in flag uses j u l at below

-- ---- windows of a kind

or_parts : (a b : Bool) → (a || b) ≡ true → (a ≡ true) ⊎ (b ≡ true)
or_parts true b is = inl refl
or_parts false b is = inr is

-- what is in a window of a kind stands at an offset of that kind
pub kind_found : (flag : Use → Bool) (uses : List Use) (at : ℕ) → list_any (λ u. flag u && has_byte u.window at) uses ≡ true
    → (k : ℕ) × (slice_get (addresses uses) k ≡ Some at) × (slice_get (flags flag uses) k ≡ Some true)
kind_found flag [] at any = absurd (cc)
kind_found flag (u ∷ uses) at any =
    elim (or_parts (flag u && has_byte u.window at) (list_any (λ u. flag u && has_byte u.window at) uses) any) [
      | inl here ↦
          let parts = and_parts (flag u) (has_byte u.window at) here in
          let found = found_in u.window.rows u.window.base u.window.width u.window.stride at parts.1 in
          let within = slice_get_within (window_addresses u.window) found.0 at found.1 in
          let below : found.0 < window_length u.window = omega (arith, within, length-window u.window) in (
            found.0,
            get-left (window_addresses u.window) (addresses uses) found.0 within ∙ found.1,
            get-left (replicate (window_length u.window) (flag u)) (flags flag uses) found.0 (omega (arith, length-replicate {A = Bool} (window_length u.window) (flag u), below))
                ∙ replicate_at (flag u) (window_length u.window) found.0 below ∙ ap Some parts.0,
          )
      | inr later ↦
          let found = kind_found flag uses at later in
          let there : length (window_addresses u.window) + found.0 ≡ length (replicate (window_length u.window) (flag u)) + found.0 =
          omega (arith, length-window u.window, length-replicate {A = Bool} (window_length u.window) (flag u)) in (
            length (window_addresses u.window) + found.0,
            get-right (window_addresses u.window) (addresses uses) found.0 ∙ found.1,
            ap (slice_get (replicate (window_length u.window) (flag u) ++ flags flag uses)) there
                ∙ get-right (replicate (window_length u.window) (flag u)) (flags flag uses) found.0 ∙ found.2,
          )
    ]

or_from : (a b : Bool) → (a ≡ true) ⊎ (b ≡ true) → (a || b) ≡ true
or_from true b is = refl
or_from false b (inl is) = absurd (cc)
or_from false b (inr is) = is

-- and what stands at such an offset is in such a window
pub kind_from : (flag : Use → Bool) (uses : List Use) (j : ℕ) (u : Use) (at : ℕ) → slice_get uses j ≡ Some u → flag u ≡ true → has_byte u.window at ≡ true
    → list_any (λ u. flag u && has_byte u.window at) uses ≡ true
kind_from flag [] j u at is of has = absurd (cc)
kind_from flag (v ∷ uses) zero u at is of has =
    let same : v ≡ u = cc is in
    or_from (flag v && has_byte v.window at) (list_any (λ u. flag u && has_byte u.window at) uses) (inl (rw same (and_from (flag u) (has_byte u.window at) of has)))
kind_from flag (v ∷ uses) (suc j) u at is of has =
    or_from (flag v && has_byte v.window at) (list_any (λ u. flag u && has_byte u.window at) uses) (inr (kind_from flag uses j u at is of has))

-- ---- sets of offsets as lists

pub listed_at : (has : ℕ → Bool) (from : ℕ) (all : List ℕ) (k at : ℕ) → slice_get all k ≡ Some at → get_or (listed has from all) k false ≡ has (from + k)
listed_at has from [] k at is = absurd (cc)
listed_at has from (a ∷ all) zero at is = ap has (plus_zero from)
listed_at has from (a ∷ all) (suc k) at is =
    let on : from + 1 + k ≡ from + suc k = omega arith in
    listed_at has (from + 1) all k at is ∙ ap has on
