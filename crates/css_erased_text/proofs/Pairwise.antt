-- Lists that agree element by element.
use Rattle.std.proofs.Common.{◌≡◌, ℕ, zero, suc, Bool, true, false, List, [], ◌∷◌, ◌++◌, take, drop, map, cond, refl}
use Rattle.std.specs.Prelude.{filter, filter_map, Option}
use Rattle.std.specs.List.{AllZip, cons_option}

module _ {A B : Type 0} (R : A → B → Type 0) where
  pub zip_take : (n : ℕ) (xs : List A) (ys : List B) → AllZip R xs ys → AllZip R (take n xs) (take n ys)
  zip_take zero xs ys zip = tt
  zip_take (suc n) [] [] zip = tt
  zip_take (suc n) [] (y ∷ ys) zip = absurd zip
  zip_take (suc n) (x ∷ xs) [] zip = absurd zip
  zip_take (suc n) (x ∷ xs) (y ∷ ys) zip = (zip.0, zip_take n xs ys zip.1)

  pub zip_drop : (n : ℕ) (xs : List A) (ys : List B) → AllZip R xs ys → AllZip R (drop n xs) (drop n ys)
  zip_drop zero xs ys zip = zip
  zip_drop (suc n) [] [] zip = tt
  zip_drop (suc n) [] (y ∷ ys) zip = absurd zip
  zip_drop (suc n) (x ∷ xs) [] zip = absurd zip
  zip_drop (suc n) (x ∷ xs) (y ∷ ys) zip = zip_drop n xs ys zip.1

  pub zip_append : (xs : List A) (ys : List B) (us : List A) (vs : List B) → AllZip R xs ys → AllZip R us vs → AllZip R (xs ++ us) (ys ++ vs)
  zip_append [] [] us vs zip more = more
  zip_append [] (y ∷ ys) us vs zip more = absurd zip
  zip_append (x ∷ xs) [] us vs zip more = absurd zip
  zip_append (x ∷ xs) (y ∷ ys) us vs zip more = (zip.0, zip_append xs ys us vs zip.1 more)

  both_chosen : (p q : Bool) (x : A) (y : B) (xs : List A) (ys : List B) → p ≡ q → R x y → AllZip R xs ys → AllZip R (cond p (x ∷ xs) xs) (cond q (y ∷ ys) ys)
  both_chosen true true x y xs ys same r zip = (r, zip)
  both_chosen true false x y xs ys same r zip = absurd cc
  both_chosen false true x y xs ys same r zip = absurd cc
  both_chosen false false x y xs ys same r zip = zip

  -- Two tests that agree keep elements that agree.
  pub zip_filter : (p : A → Bool) (q : B → Bool) → ((x : A) (y : B) → R x y → p x ≡ q y) → (xs : List A) (ys : List B) → AllZip R xs ys → AllZip R (filter p xs) (filter q ys)
  zip_filter p q same [] [] zip = tt
  zip_filter p q same [] (y ∷ ys) zip = absurd zip
  zip_filter p q same (x ∷ xs) [] zip = absurd zip
  zip_filter p q same (x ∷ xs) (y ∷ ys) zip =
      both_chosen (p x) (q y) x y (filter p xs) (filter q ys) (same x y zip.0) zip.0 (zip_filter p q same xs ys zip.1)

  -- Where one list is empty, so is the other.
  pub zip_none : {C : Type 0} (f : A → C) (g : B → C) (xs : List A) (ys : List B) → AllZip R xs ys → map f xs ≡ [] → map g ys ≡ []
  zip_none f g [] [] zip none = refl
  zip_none f g [] (y ∷ ys) zip none = absurd zip
  zip_none f g (x ∷ xs) [] zip none = absurd zip
  zip_none f g (x ∷ xs) (y ∷ ys) zip none = absurd cc

  option_same : {C : Type 0} (x y : Option C) (xs ys : List C) → x ≡ y → xs ≡ ys → cons_option x xs ≡ cons_option y ys
  option_same x y xs ys a b = cc

  pub zip_found : {C : Type 0} (f : A → Option C) (g : B → Option C) → ((x : A) (y : B) → R x y → f x ≡ g y) → (xs : List A) (ys : List B) → AllZip R xs ys
      → filter_map f xs ≡ filter_map g ys
  zip_found f g same [] [] zip = refl
  zip_found f g same [] (y ∷ ys) zip = absurd zip
  zip_found f g same (x ∷ xs) [] zip = absurd zip
  zip_found f g same (x ∷ xs) (y ∷ ys) zip = option_same (f x) (g y) (filter_map f xs) (filter_map g ys) (same x y zip.0) (zip_found f g same xs ys zip.1)

  pub zip_map : {C D : Type 0} (f : C → A) (g : D → B) (xs : List C) (ys : List D) → AllZip (λ x y. R (f x) (g y)) xs ys → AllZip R (map f xs) (map g ys)
  zip_map f g [] [] zip = tt
  zip_map f g [] (y ∷ ys) zip = absurd zip
  zip_map f g (x ∷ xs) [] zip = absurd zip
  zip_map f g (x ∷ xs) (y ∷ ys) zip = (zip.0, zip_map f g xs ys zip.1)

-- A relation that holds of what another one relates.
pub zip_weaker : {A B : Type 0} (R S : A → B → Type 0) → ((x : A) (y : B) → R x y → S x y) → (xs : List A) (ys : List B) → AllZip R xs ys → AllZip S xs ys
zip_weaker R S weaker [] [] zip = tt
zip_weaker R S weaker [] (y ∷ ys) zip = absurd zip
zip_weaker R S weaker (x ∷ xs) [] zip = absurd zip
zip_weaker R S weaker (x ∷ xs) (y ∷ ys) zip = (weaker x y zip.0, zip_weaker R S weaker xs ys zip.1)
