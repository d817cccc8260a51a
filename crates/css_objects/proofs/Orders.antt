-- Lists in another order.
use Rattle.std.proofs.Common.{◌≡◌, ℕ, zero, suc, ◌≤◌, ◌<◌, Bool, true, false, List, [], ◌∷◌, length, filter, find, get_or, set, swap, Some, refl, sym, ap, ◌∙◌, subst, arith, if◌then◌else◌}
use Rattle.std.specs.Prelude.{IsPermutation}
use Rattle.std.proofs.lemmas.List.Sorted.{IsPermutation-refl, IsPermutation-trans, IsPermutation-cons, IsPermutation-swap, IsPermutation-keeps}

-- What holds of a list and itself, of lists with one more in front, where the first two are turned, and of a chain holds of a list and
-- itself in another order.
module _ {X : Type 0} (R : List X → List X → Type 0) (same : (xs : List X) → R xs xs) (under : (x : X) (xs ys : List X) → R xs ys → R (x ∷ xs) (x ∷ ys))
    (turned : (x y : X) (xs : List X) → R (x ∷ y ∷ xs) (y ∷ x ∷ xs)) (chained : (xs ys zs : List X) → R xs ys → R ys zs → R xs zs) where
  -- the first one and a later one change places
  first_later : (x d : X) (xs : List X) (j : ℕ) → j < length xs → R (x ∷ xs) (get_or xs j d ∷ set xs j x)
  first_later x d [] j below = absurd (omega arith)
  first_later x d (y ∷ xs) zero below = turned x y xs
  first_later x d (y ∷ xs) (suc j) below =
      let z = get_or xs j d in
      let moved = under y (x ∷ xs) (z ∷ set xs j x) (first_later x d xs j (omega arith)) in
      chained (x ∷ y ∷ xs) (y ∷ x ∷ xs) (z ∷ y ∷ set xs j x) (turned x y xs)
      (chained (y ∷ x ∷ xs) (y ∷ z ∷ set xs j x) (z ∷ y ∷ set xs j x) moved (turned y z (set xs j x)))

  -- any two do
  any_two : (d : X) (xs : List X) (i j : ℕ) → i < length xs → j < length xs → R xs (set (set xs i (get_or xs j d)) j (get_or xs i d))
  any_two d [] i j of_i of_j = absurd (omega arith)
  any_two d (x ∷ xs) zero zero of_i of_j = same (x ∷ xs)
  any_two d (x ∷ xs) zero (suc j) of_i of_j = first_later x d xs j (omega arith)
  any_two d (x ∷ xs) (suc i) zero of_i of_j = first_later x d xs i (omega arith)
  any_two d (x ∷ xs) (suc i) (suc j) of_i of_j = under x xs (set (set xs i (get_or xs j d)) j (get_or xs i d)) (any_two d xs i j (omega arith) (omega arith))

  swapped : (xs : List X) (i j : ℕ) → i < length xs → j < length xs → R xs (swap xs i j)
  swapped [] i j of_i of_j = absurd (omega arith)
  swapped (x ∷ xs) i j of_i of_j = any_two x (x ∷ xs) i j of_i of_j

  pub in_any_order : (xs ys : List X) → IsPermutation xs ys → R xs ys
  in_any_order xs = IsPermutation-keeps xs (R xs) (same xs) (λ zs i j of_i of_j so_far. chained xs zs (swap zs i j) so_far (swapped zs i j of_i of_j))

module _ {X : Type 0} (p : X → Bool) where
  -- ---- those that pass, in another order

  pub filter-permuted : (xs ys : List X) → IsPermutation xs ys → IsPermutation (filter p xs) (filter p ys)
  filter-permuted = in_any_order (λ xs ys. IsPermutation (filter p xs) (filter p ys)) (λ xs. IsPermutation-refl (filter p xs)) (λ x xs ys h. under x xs ys h (p x)) (λ x y xs. turned x y xs (p x) (p y))
      (λ xs ys zs. IsPermutation-trans (filter p xs) (filter p ys) (filter p zs))
    where
      under : (x : X) (xs ys : List X) → IsPermutation (filter p xs) (filter p ys) → (b : Bool) → IsPermutation (if b then x ∷ filter p xs else filter p xs) (if b then x ∷ filter p ys else filter p ys)
      under x xs ys h true = IsPermutation-cons x (filter p xs) (filter p ys) h
      under x xs ys h false = h

      two : (x y : X) (zs : List X) → IsPermutation (x ∷ y ∷ zs) (y ∷ x ∷ zs)
      two x y zs = IsPermutation-swap (x ∷ y ∷ zs) (y ∷ x ∷ zs) 0 1 (omega arith) (omega arith) refl

      turned : (x y : X) (xs : List X) (b c : Bool)
          → IsPermutation (if b then x ∷ (if c then y ∷ filter p xs else filter p xs) else (if c then y ∷ filter p xs else filter p xs))
          (if c then y ∷ (if b then x ∷ filter p xs else filter p xs) else (if b then x ∷ filter p xs else filter p xs))
      turned x y xs true true = two x y (filter p xs)
      turned x y xs true false = IsPermutation-refl (x ∷ filter p xs)
      turned x y xs false true = IsPermutation-refl (y ∷ filter p xs)
      turned x y xs false false = IsPermutation-refl (filter p xs)

  -- ---- the one that passes, where there is only one

  record FindAlike (xs ys : List X) : Type 0 where
    count : length (filter p ys) ≡ length (filter p xs)
    finds : length (filter p xs) ≤ 1 → find p xs ≡ find p ys

  pub find-permuted : (xs ys : List X) → IsPermutation xs ys → length (filter p xs) ≤ 1 → find p xs ≡ find p ys
  find-permuted xs ys permuted few =
      (in_any_order FindAlike (λ zs. record { count = refl; finds = λ h. refl }) (λ x us vs h. record { count = more x us vs h.count (p x); finds = later x us vs h.finds (p x) })
      (λ x y us. record { count = turned_count x y us (p x) (p y); finds = turned_finds x y us (p x) (p y) })
      (λ us vs ws g h. record { count = h.count ∙ g.count; finds = λ m. g.finds m ∙ h.finds (subst (λ (n : ℕ). n ≤ 1) (sym g.count) m) })
      xs ys permuted).finds few
    where
      more : (x : X) (us vs : List X) → length (filter p vs) ≡ length (filter p us) → (b : Bool) → length (if b then x ∷ filter p vs else filter p vs) ≡ length (if b then x ∷ filter p us else filter p us)
      more x us vs same true = ap suc same
      more x us vs same false = same

      later : (x : X) (us vs : List X) → (length (filter p us) ≤ 1 → find p us ≡ find p vs) → (b : Bool) → length (if b then x ∷ filter p us else filter p us) ≤ 1
          → (if b then Some x else find p us) ≡ (if b then Some x else find p vs)
      later x us vs finds true m = refl
      later x us vs finds false m = finds m

      turned_count : (x y : X) (us : List X) (b c : Bool)
          → length (if c then y ∷ (if b then x ∷ filter p us else filter p us) else (if b then x ∷ filter p us else filter p us))
          ≡ length (if b then x ∷ (if c then y ∷ filter p us else filter p us) else (if c then y ∷ filter p us else filter p us))
      turned_count x y us true true = refl
      turned_count x y us true false = refl
      turned_count x y us false true = refl
      turned_count x y us false false = refl

      turned_finds : (x y : X) (us : List X) (b c : Bool)
          → length (if b then x ∷ (if c then y ∷ filter p us else filter p us) else (if c then y ∷ filter p us else filter p us)) ≤ 1
          → (if b then Some x else (if c then Some y else find p us)) ≡ (if c then Some y else (if b then Some x else find p us))
      turned_finds x y us true true m = absurd (omega arith)
      turned_finds x y us true false m = refl
      turned_finds x y us false true m = refl
      turned_finds x y us false false m = refl
