-- Elements of lists by their places.
use Rattle.std.proofs.Common.{◌≡◌, ◌<◌, ℕ, zero, suc, List, [], ◌∷◌, ◌++◌, length, take, map, Some, Contains, All, ◌⊎◌, inl, inr, refl, ◌∙◌, ap, subst, arith}
use Rattle.std.specs.List.{slice_get}
use Rattle.std.proofs.lemmas.Option.{slice_get-get_or, slice_get_within, get_or_from_slice_get}

-- an element has a place
pub place_of : {A : Type 0} (xs : List A) (x : A) → Contains xs x → (k : ℕ) × (slice_get xs k ≡ Some x)
place_of xs x has = (has.0, slice_get-get_or xs has.0 x has.1 ∙ ap Some has.2)

-- what has a place is an element
pub has_place : {A : Type 0} (xs : List A) (k : ℕ) (x : A) → slice_get xs k ≡ Some x → Contains xs x
has_place xs k x is = (k, slice_get_within xs k x is, get_or_from_slice_get xs k x x is)

-- each place below the length has an element
pub is_within : {A : Type 0} (xs : List A) (k : ℕ) → k < length xs → (x : A) × (slice_get xs k ≡ Some x)
is_within [] k below = absurd (omega (arith, below))
is_within (x ∷ xs) zero below = (x, refl)
is_within (x ∷ xs) (suc k) below = is_within xs k (omega (arith, below))

-- the element at a place is one for which all hold
pub all_at : {A : Type 0} (P : A → Type 0) (xs : List A) (k : ℕ) (x : A) → slice_get xs k ≡ Some x → All P xs → P x
all_at P xs k x is all = subst P (get_or_from_slice_get xs k x x is) (all k x (slice_get_within xs k x is))

-- a list with one more element in front of its front
pub take_one_more : {A : Type 0} (xs : List A) (k : ℕ) (x : A) → slice_get xs k ≡ Some x → take (suc k) xs ≡ take k xs ++ x ∷ []
take_one_more [] k x is = cc
take_one_more (y ∷ xs) zero x is = let same : y ≡ x = cc in ap (λ z. z ∷ []) same
take_one_more (y ∷ xs) (suc k) x is = ap (λ zs. y ∷ zs) (take_one_more xs k x is)

-- the places of a list with one more element behind it
pub last_or_before : {A : Type 0} (xs : List A) (x : A) (k : ℕ) (y : A) → slice_get (xs ++ x ∷ []) k ≡ Some y → (slice_get xs k ≡ Some y) ⊎ ((k ≡ length xs) × (x ≡ y))
last_or_before [] x zero y is = inr (refl, cc)
last_or_before [] x (suc k) y is = cc
last_or_before (z ∷ xs) x zero y is = inl is
last_or_before (z ∷ xs) x (suc k) y is =
    elim (last_or_before xs x k y is) [ inl before ↦ inl before | inr last ↦ inr (omega (arith, last.0), last.1) ]

pub before_last : {A : Type 0} (xs : List A) (x : A) (k : ℕ) (y : A) → slice_get xs k ≡ Some y → slice_get (xs ++ x ∷ []) k ≡ Some y
before_last [] x k y is = cc
before_last (z ∷ xs) x zero y is = is
before_last (z ∷ xs) x (suc k) y is = before_last xs x k y is

-- what stands at a place of a mapped list
pub at_mapped : {A B : Type 0} (f : A → B) (xs : List A) (k : ℕ) (y : B) → slice_get (map f xs) k ≡ Some y → (x : A) × (slice_get xs k ≡ Some x) × (f x ≡ y)
at_mapped f [] k y is = cc
at_mapped f (x ∷ xs) zero y is = (x, refl, cc)
at_mapped f (x ∷ xs) (suc k) y is = at_mapped f xs k y is

pub mapped_at : {A B : Type 0} (f : A → B) (xs : List A) (k : ℕ) (x : A) → slice_get xs k ≡ Some x → slice_get (map f xs) k ≡ Some (f x)
mapped_at f [] k x is = cc
mapped_at f (y ∷ xs) zero x is = let same : y ≡ x = cc in ap (λ z. Some (f z)) same
mapped_at f (y ∷ xs) (suc k) x is = mapped_at f xs k x is

pub before_more : {A : Type 0} (xs ys : List A) (k : ℕ) (x : A) → slice_get xs k ≡ Some x → slice_get (xs ++ ys) k ≡ Some x
before_more [] ys k x is = cc
before_more (y ∷ xs) ys zero x is = is
before_more (y ∷ xs) ys (suc k) x is = before_more xs ys k x is
