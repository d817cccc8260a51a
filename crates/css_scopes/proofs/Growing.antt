-- A table with one more name.
use Rattle.std.proofs.Common.{◌≡◌, ℕ, zero, suc, ◌+◌, ◌<◌, ◌≤◌, Bool, true, false, not, cond, eqb, nat_lt, List, [], ◌∷◌, ◌++◌, length, bytes_eq, get_or, Option, Some, None, refl, sym, ap, ◌∙◌, arith, length-append}
use Rattle.std.specs.List.{position_or_len}
use Rattle.std.proofs.lemmas.Option.{none-some}
use Rattle.std.proofs.lemmas.List.{get_or_past}
use Rattle.std.proofs.lemmas.List.Sums.{prefix_len-le-length}
use Rattle.std.proofs.lemmas.List.Folds.{position_or_len_push}
use Rattle.std.proofs.lemmas.Bool.Decides.{nat_tests}
use Rattle.std.proofs.lemmas.Slice.Eq.{bytes_eq-Decides}
use Rattle.css_scopes.specs.Names.{number_of}
use Rattle.css_scopes.specs.Tables.{at_number}

get_or-none : (xs : List (Option ℕ)) (k : ℕ) → get_or (xs ++ None ∷ []) k None ≡ get_or xs k None
get_or-none [] zero = refl
get_or-none [] (suc k) = refl
get_or-none (x ∷ xs) zero = refl
get_or-none (x ∷ xs) (suc k) = get_or-none xs k

-- a name that isn't there has the number behind all
at_number-is : (names : List (List ℕ)) (newest : List (Option ℕ)) (name : List ℕ) → length newest ≡ length names
    → at_number newest (number_of names name) ≡ get_or newest (position_or_len (bytes_eq name) names) None
at_number-is names newest name e = by_test (nat_lt (position_or_len (bytes_eq name) names) (length names)) refl where
  by_test : (t : Bool) → nat_lt (position_or_len (bytes_eq name) names) (length names) ≡ t
      → at_number newest (cond t (Some (position_or_len (bytes_eq name) names)) None) ≡ get_or newest (position_or_len (bytes_eq name) names) None
  by_test true is = refl
  by_test false is =
      let past : length newest ≤ position_or_len (bytes_eq name) names = grind (arith, nat_tests) in
      sym (get_or_past newest (position_or_len (bytes_eq name) names) None past)

pushed : (newest : List (Option ℕ)) (p q n : ℕ) (c : ℕ) → length newest ≡ n → q ≡ cond (eqb p n) (n + c) p → get_or newest q None ≡ get_or newest p None
pushed newest p q n c e is = by_test (eqb p n) refl where
  by_test : (t : Bool) → eqb p n ≡ t → get_or newest q None ≡ get_or newest p None
  by_test true same =
      let at : p ≡ n = grind (arith, nat_tests) in
      let to : q ≡ n + c = is ∙ ap (λ t. cond t (n + c) p) same in
      get_or_past newest q None (omega (arith, e, to)) ∙ sym (get_or_past newest p None (omega (arith, e, at)))
  by_test false other = ap (λ k. get_or newest k None) (is ∙ ap (λ t. cond t (n + c) p) other)

-- no other name is found elsewhere
pub grown_same : (names : List (List ℕ)) (newest : List (Option ℕ)) (text : List ℕ) → length newest ≡ length names → (name : List ℕ)
    → at_number (newest ++ None ∷ []) (number_of (names ++ text ∷ []) name) ≡ at_number newest (number_of names name)
grown_same names newest text e name =
    let longer = length-append names (text ∷ []) in
    let longer' = length-append newest (None ∷ []) in
    at_number-is (names ++ text ∷ []) (newest ++ None ∷ []) name (omega (arith, e, longer, longer'))
    ∙ get_or-none newest (position_or_len (bytes_eq name) (names ++ text ∷ []))
    ∙ pushed newest (position_or_len (bytes_eq name) names) (position_or_len (bytes_eq name) (names ++ text ∷ [])) (length names) (cond (bytes_eq name text) 0 1) e (position_or_len_push (bytes_eq name) names text)
    ∙ sym (at_number-is names newest name e)

there : (n m : ℕ) → n < m → cond (nat_lt n m) (Some n) None ≡ Some n
there n m below = let is : nat_lt n m ≡ true = grind (arith, nat_tests) in ap (λ t. cond t (Some n) None) is

not_there : (n m : ℕ) → cond (nat_lt n m) (Some n) None ≡ None → m ≤ n
not_there n m none = by_test (nat_lt n m) refl where
  by_test : (t : Bool) → nat_lt n m ≡ t → m ≤ n
  by_test true is = absurd (none-some n (sym none ∙ ap (λ t. cond t (Some n) None) is))
  by_test false is = grind (arith, nat_tests)

-- a new name has the number behind all
pub grown_new : (names : List (List ℕ)) (text : List ℕ) → number_of names text ≡ None → number_of (names ++ text ∷ []) text ≡ Some (length names)
grown_new names text none =
    let p = position_or_len (bytes_eq text) names in
    let past = not_there p (length names) none in
    let at : p ≡ length names = omega (arith, past, prefix_len-le-length (λ x. not (bytes_eq text x)) names) in
    let test : eqb p (length names) ≡ true = grind (arith, nat_tests) in
    let same : bytes_eq text text ≡ true = (bytes_eq-Decides text text).1 refl in
    let next : position_or_len (bytes_eq text) (names ++ text ∷ []) ≡ length names =
    position_or_len_push (bytes_eq text) names text ∙ ap (λ t. cond t (length names + cond (bytes_eq text text) 0 1) p) test ∙ ap (λ t. length names + cond t 0 1) same ∙ omega arith in
    let longer = length-append names (text ∷ []) in
    there (position_or_len (bytes_eq text) (names ++ text ∷ [])) (length (names ++ text ∷ [])) (omega (arith, next, longer)) ∙ ap Some next
