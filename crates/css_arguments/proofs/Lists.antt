-- Tests of lists, place by place.
use Rattle.std.proofs.Common.{◌≡◌, ℕ, zero, suc, ◌+◌, Bool, true, false, ◌&&◌, ◌||◌, List, [], ◌∷◌, ◌++◌, length, map, filter, slice_get, Some, refl, sym, ap, ◌∙◌, subst, All, arith, if◌then◌else◌}
use Rattle.std.specs.List.{list_any}
use Rattle.std.proofs.lemmas.Bool.{or_left, or_right, or_from}
use Rattle.std.proofs.lemmas.List.Elements.{All-head, All-tail}

some_inside : {X : Type 0} (x y : X) → Some x ≡ Some y → x ≡ y
some_inside x y e = cc

module _ {X : Type 0} (p : X → Bool) where
  -- none passes
  pub any_none : (xs : List X) → ((i : ℕ) (x : X) → slice_get xs i ≡ Some x → p x ≡ false) → list_any p xs ≡ false
  any_none [] none = refl
  any_none (x ∷ xs) none = or_from (p x) (list_any p xs) (none 0 x refl) (any_none xs (λ i y at. none (suc i) y at))

  -- one passes
  pub any_one : (xs : List X) (i : ℕ) (x : X) → slice_get xs i ≡ Some x → p x ≡ true → list_any p xs ≡ true
  any_one [] i x at passes = absurd (cc)
  any_one (y ∷ xs) zero x at passes = or_left (p y) (list_any p xs) (subst (λ z. p z ≡ true) (sym (some_inside y x at)) passes)
  any_one (y ∷ xs) (suc i) x at passes = or_right (p y) (list_any p xs) (any_one xs i x at passes)

-- tests that agree on each
pub any_same : {X : Type 0} (p q : X → Bool) (xs : List X) → ((i : ℕ) (x : X) → slice_get xs i ≡ Some x → p x ≡ q x) → list_any p xs ≡ list_any q xs
any_same p q [] same = refl
any_same p q (x ∷ xs) same = ap (λ b. b || list_any p xs) (same 0 x refl) ∙ ap (λ b. q x || b) (any_same p q xs (λ i y at. same (suc i) y at))

pub any_map : {X Y : Type 0} (f : X → Y) (p : Y → Bool) (xs : List X) → list_any p (map f xs) ≡ list_any (λ x. p (f x)) xs
any_map f p [] = refl
any_map f p (x ∷ xs) = ap (λ b. p (f x) || b) (any_map f p xs)

pub any_filter : {X : Type 0} (p q : X → Bool) (xs : List X) → list_any (λ x. p x && q x) xs ≡ list_any q (filter p xs)
any_filter p q [] = refl
any_filter p q (x ∷ xs) = by (p x) (any_filter p q xs)
  where
    by : (b : Bool) → list_any (λ y. p y && q y) xs ≡ list_any q (filter p xs)
        → ((b && q x) || list_any (λ y. p y && q y) xs) ≡ list_any q (if b then x ∷ filter p xs else filter p xs)
    by true rest = ap (λ r. q x || r) rest
    by false rest = rest

-- what holds of all holds at each place
pub at_place : {X : Type 0} (P : X → Type 0) (xs : List X) → All P xs → (i : ℕ) (x : X) → slice_get xs i ≡ Some x → P x
at_place P [] all i x at = absurd (cc)
at_place P (y ∷ xs) all zero x at = subst P (some_inside y x at) (All-head P y xs all)
at_place P (y ∷ xs) all (suc i) x at = at_place P xs (All-tail P y xs all) i x at

-- an element of a list that is mapped
pub map_place : {X Y : Type 0} (f : X → Y) (xs : List X) (i : ℕ) (y : Y) → slice_get (map f xs) i ≡ Some y → (x : X) × (slice_get xs i ≡ Some x) × (f x ≡ y)
map_place f [] i y at = absurd (cc)
map_place f (x ∷ xs) zero y at = (x, refl, some_inside (f x) y at)
map_place f (x ∷ xs) (suc i) y at = map_place f xs i y at

pub place_map : {X Y : Type 0} (f : X → Y) (xs : List X) (i : ℕ) (x : X) → slice_get xs i ≡ Some x → slice_get (map f xs) i ≡ Some (f x)
place_map f [] i x at = absurd (cc)
place_map f (y ∷ xs) zero x at = ap (λ z. Some (f z)) (some_inside y x at)
place_map f (y ∷ xs) (suc i) x at = place_map f xs i x at

-- a place of one of two lists is one of both
pub place_left : {X : Type 0} (xs ys : List X) (i : ℕ) (x : X) → slice_get xs i ≡ Some x → slice_get (xs ++ ys) i ≡ Some x
place_left [] ys i x at = absurd (cc)
place_left (y ∷ xs) ys zero x at = at
place_left (y ∷ xs) ys (suc i) x at = place_left xs ys i x at

pub place_right : {X : Type 0} (xs ys : List X) (i : ℕ) (x : X) → slice_get ys i ≡ Some x → slice_get (xs ++ ys) (length xs + i) ≡ Some x
place_right [] ys i x at = subst (λ n. slice_get ys n ≡ Some x) (let e : i ≡ 0 + i = omega arith in e) at
place_right (y ∷ xs) ys i x at = subst (λ n. slice_get (y ∷ (xs ++ ys)) n ≡ Some x) (let e : suc (length xs + i) ≡ suc (length xs) + i = omega arith in e) (place_right xs ys i x at)
