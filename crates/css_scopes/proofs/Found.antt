-- Names in tables and in lists.
use Rattle.std.proofs.Common.{◌≡◌, ℕ, ◌+◌, ◌<◌, ◌≤◌, nat_lt, eqb, Bool, true, false, not, cond, List, [], ◌∷◌, ◌++◌, length, map, position, bytes_eq, Option, Some, None, is_some, if◌then◌else◌, Bor, refl, sym, ap, ◌∙◌, arith, length-append}
use Rattle.std.specs.Map.{lookup}
use Rattle.std.specs.List.{position_or_len}
use Rattle.std.proofs.lemmas.List.Folds.{position_or_len_push}
use Rattle.std.proofs.lemmas.List.Sums.{prefix_len-le-length}
use Rattle.std.proofs.lemmas.Slice.Eq.{bytes_eq-Decides}
use Rattle.std.proofs.lemmas.Bool.Decides.{nat_tests}
use Rattle.css_scopes.specs.FirstPlaces.{ArePlaces}
use Rattle.css_scopes.specs.Firsts.{value_of, with_value}

-- ---- values by name

pub value_of-view : {V : Type 0} (entries : List (Bor (List ℕ) × V)) (name : List ℕ) → lookup (λ k. bytes_eq name k.now) entries ≡ value_of (map (λ e. (e.0.now, e.1)) entries) name
value_of-view [] name = refl
value_of-view (e ∷ entries) name =
    elim (bytes_eq name e.0.now)
    as (λ t. cond t (Some e.1) (lookup (λ k. bytes_eq name k.now) entries) ≡ (if t then Some e.1 else value_of (map (λ e. (e.0.now, e.1)) entries) name))
    [ true ↦ refl | false ↦ value_of-view entries name ]

-- the first of two
abbrev pub first_of : {V : Type 0} → Option V → Option V → Option V
first_of None b = b
first_of (Some a) b = Some a

module _ {V : Type 0} where
  value_of-append : (es : List (List ℕ × V)) (name q : List ℕ) (v : V) → value_of (es ++ (name, v) ∷ []) q ≡ first_of (value_of es q) (if bytes_eq q name then Some v else None)
  value_of-append [] name q v = refl
  value_of-append (e ∷ es) name q v =
      elim (bytes_eq q e.0)
      as (λ t. (if t then Some e.1 else value_of (es ++ (name, v) ∷ []) q) ≡ first_of (if t then Some e.1 else value_of es q) (if bytes_eq q name then Some v else None))
      [ true ↦ refl | false ↦ value_of-append es name q v ]

  -- what is found once a value is added
  pub value_of-with : (es : List (List ℕ × V)) (name q : List ℕ) (v : V) → value_of (with_value es name v) q ≡ first_of (value_of es q) (if bytes_eq q name then Some v else None)
  value_of-with es name q v = by_found (value_of es name) refl where
    first_none : (o : Option V) → o ≡ first_of o None
    first_none None = refl
    first_none (Some a) = refl

    kept : (a : V) → value_of es name ≡ Some a → (t : Bool) → bytes_eq q name ≡ t → value_of es q ≡ first_of (value_of es q) (if t then Some v else None)
    kept a found true e =
        let there : value_of es q ≡ Some a = ap (value_of es) ((bytes_eq-Decides q name).0 e) ∙ found in
        there ∙ sym (ap (λ o. first_of o (Some v)) there)
    kept a found false e = first_none (value_of es q)

    by_found : (o : Option V) → value_of es name ≡ o → value_of (if is_some o then es else es ++ (name, v) ∷ []) q ≡ first_of (value_of es q) (if bytes_eq q name then Some v else None)
    by_found None none = value_of-append es name q v
    by_found (Some a) found = kept a found (bytes_eq q name) refl

-- ---- places

above_is : {n m : ℕ} → nat_lt n m ≡ false → m ≤ n
above_is {n} {m} e = grind (arith, nat_tests, e)

there : (n m : ℕ) → n < m → cond (nat_lt n m) (Some n) None ≡ Some n
there n m below = let is : nat_lt n m ≡ true = grind (arith, nat_tests) in ap (λ t. cond t (Some n) None) is

past : (n m : ℕ) → m ≤ n → cond (nat_lt n m) (Some n) None ≡ None
past n m above = let is : nat_lt n m ≡ false = grind (arith, nat_tests) in ap (λ t. cond t (Some n) None) is

-- one more
pub position-push : {A : Type 0} (test : A → Bool) (x : A) (xs : List A) → position test (xs ++ x ∷ []) ≡ first_of (position test xs) (if test x then Some (length xs) else None)
position-push test x xs = by_test (nat_lt p (length xs)) refl (test x) refl where
  p : ℕ
  p = position_or_len test xs

  p' : ℕ
  p' = position_or_len test (xs ++ x ∷ [])

  pushed : p' ≡ cond (eqb p (length xs)) (length xs + cond (test x) 0 1) p
  pushed = position_or_len_push test xs x

  longer : length (xs ++ x ∷ []) ≡ length xs + 1
  longer = length-append xs (x ∷ [])

  by_test : (t : Bool) → nat_lt p (length xs) ≡ t → (same : Bool) → test x ≡ same
      → cond (nat_lt p' (length (xs ++ x ∷ []))) (Some p') None ≡ first_of (cond t (Some p) None) (if same then Some (length xs) else None)
  by_test true below same e =
      let other : eqb p (length xs) ≡ false = grind (arith, nat_tests, below) in
      let is : p' ≡ p = pushed ∙ ap (λ t. cond t (length xs + cond (test x) 0 1) p) other in
      let lower : p < length xs = grind (arith, nat_tests, below) in
      there p' (length (xs ++ x ∷ [])) (omega (arith, is, lower, longer)) ∙ ap Some is
  by_test false above true e =
      let at : p ≡ length xs = omega (arith, prefix_len-le-length (λ y. not (test y)) xs, above_is above) in
      let equal : eqb p (length xs) ≡ true = grind (arith, nat_tests, at) in
      let is : p' ≡ length xs = pushed ∙ ap (λ t. cond t (length xs + cond (test x) 0 1) p) equal ∙ ap (λ t. length xs + cond t 0 1) e ∙ omega arith in
      there p' (length (xs ++ x ∷ [])) (omega (arith, is, longer)) ∙ ap Some is
  by_test false above false e =
      let at : p ≡ length xs = omega (arith, prefix_len-le-length (λ y. not (test y)) xs, above_is above) in
      let equal : eqb p (length xs) ≡ true = grind (arith, nat_tests, at) in
      let is : p' ≡ length xs + 1 = pushed ∙ ap (λ t. cond t (length xs + cond (test x) 0 1) p) equal ∙ ap (λ t. length xs + cond t 0 1) e in
      past p' (length (xs ++ x ∷ [])) (omega (arith, is, longer))

pub more_places : (first after : List (List ℕ × ℕ)) (names all : List (List ℕ)) (name : List ℕ) (place : ℕ) → ArePlaces first names → place ≡ length names → all ≡ names ++ name ∷ []
    → after ≡ with_value first name place → ArePlaces after all
more_places first after names all name place are at longer is q =
    ap (λ l. value_of l q) is ∙ value_of-with first name q place
    ∙ ap (λ o. first_of o (if bytes_eq q name then Some place else None)) (are q)
    ∙ ap (λ n. first_of (position (bytes_eq q) names) (if bytes_eq q name then Some n else None)) at
    ∙ sym (position-push (bytes_eq q) name names) ∙ ap (position (bytes_eq q)) (sym longer)
