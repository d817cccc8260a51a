-- Elements of lists, once one is set.
use Rattle.std.proofs.Common.{◌≡◌, ◌≢◌, ◌⊎◌, ℕ, zero, suc, Bool, true, ◌==◌, List, [], ◌∷◌, ◌++◌, ◌<◌, length, set, get_or, Some, Option, None, IfSome, IfNone, refl, ap, inl, inr, arith, slice_get}
use Rattle.std.specs.List.{list_all}
use Rattle.std.proofs.lemmas.Bool.{and_from, eq-eqb}
use Rattle.css_graph.specs.Tasks.{is_among}
use Rattle.css_history.proofs.Bools.{or_left, or_right}

module _ {X : Type 0} where
  pub get_set : (xs : List X) (i j : ℕ) (x y : X) → slice_get (set xs i x) j ≡ Some y → ((j ≡ i) × (x ≡ y)) ⊎ ((j ≢ i) × (slice_get xs j ≡ Some y))
  get_set [] i j x y e = absurd (cc)
  get_set (z ∷ xs) zero zero x y e = inl (refl, cc)
  get_set (z ∷ xs) zero (suc j) x y e = inr ((λ h. absurd (omega arith)), e)
  get_set (z ∷ xs) (suc i) zero x y e = inr ((λ h. absurd (omega arith)), e)
  get_set (z ∷ xs) (suc i) (suc j) x y e = elim (get_set xs i j x y e) [ inl h ↦ inl (ap suc h.0, h.1) | inr h ↦ inr ((λ s. h.0 (omega arith)), h.1) ]

  pub get_seam : (xs ys : List X) (x : X) → slice_get (xs ++ x ∷ ys) (length xs) ≡ Some x
  get_seam [] ys x = refl
  get_seam (y ∷ xs) ys x = get_seam xs ys x

-- all numbers of a list pass that are among it
pub all_among : (p : ℕ → Bool) (numbers : List ℕ) → ((n : ℕ) → is_among numbers n ≡ true → p n ≡ true) → list_all p numbers ≡ true
all_among p [] each = refl
all_among p (n ∷ numbers) each =
    and_from (p n) (list_all p numbers) (each n (or_left (n == n) (is_among numbers n) (eq-eqb n n refl))) (all_among p numbers (λ m e. each m (or_right (n == m) (is_among numbers m) e)))

-- what is said of an option that is there, or isn't
pub some_weaker : {X : Type 0} (a : Option X) (P Q : X → Type 0) → ((x : X) → P x → Q x) → IfSome a P → IfSome a Q
some_weaker None P Q weak h = tt
some_weaker (Some x) P Q weak h = weak x h

pub none_weaker : {X : Type 0} (a : Option X) (P Q : Type 0) → (P → Q) → IfNone a P → IfNone a Q
none_weaker None P Q weak h = weak h
none_weaker (Some x) P Q weak h = tt

-- a number that stands at a place is among the list
pub among_at : (ns : List ℕ) (n k : ℕ) → k < length ns → (get_or ns k 0 == n) ≡ true → is_among ns n ≡ true
among_at [] n k below same = absurd (omega (arith, below))
among_at (m ∷ ns) n zero below same = or_left (m == n) (is_among ns n) same
among_at (m ∷ ns) n (suc k) below same = or_right (m == n) (is_among ns n) (among_at ns n k (omega (arith, below)) same)
