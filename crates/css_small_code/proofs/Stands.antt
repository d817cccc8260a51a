-- Items that stand at a place of a list.
use Rattle.std.proofs.Common.{◌≡◌, ℕ, ◌+◌, List, [], ◌∷◌, ◌++◌, length, Some, refl, subst, arith, append_assoc, length-append}
use Rattle.std.specs.Prelude.{slice_get}

-- the items stand in the list from this place on
abbrev pub Stands : {A : Type 0} → List A → ℕ → List A → Type 0
Stands all place [] = Unit {0}
Stands all place (x ∷ xs) = (slice_get all place ≡ Some x) × Stands all (place + 1) xs

-- of two parts in a row the first stands there
pub stands_front : {A : Type 0} (all : List A) (place : ℕ) (xs ys : List A) → Stands all place (xs ++ ys) → Stands all place xs
stands_front all place [] ys h = tt
stands_front all place (x ∷ xs) ys h = (h.0, stands_front all (place + 1) xs ys h.1)

-- and the second stands behind it
pub stands_back : {A : Type 0} (all : List A) (place : ℕ) (xs ys : List A) → Stands all place (xs ++ ys) → Stands all (place + length xs) ys
stands_back all place [] ys h = let e : place ≡ place + 0 = omega arith in subst (λ p. Stands all p ys) e h
stands_back all place (x ∷ xs) ys h =
    let e : place + 1 + length xs ≡ place + length (x ∷ xs) = omega arith in
    subst (λ p. Stands all p ys) e (stands_back all (place + 1) xs ys h.1)

-- the item behind the first part
seam : {A : Type 0} (before : List A) (x : A) (xs : List A) → slice_get (before ++ x ∷ xs) (length before) ≡ Some x
seam [] x xs = refl
seam (b ∷ before) x xs = seam before x xs

stands_behind : {A : Type 0} (before xs : List A) → Stands (before ++ xs) (length before) xs
stands_behind before [] = tt
stands_behind before (x ∷ xs) =
    let e : length (before ++ x ∷ []) ≡ length before + 1 = omega (arith, length-append before (x ∷ [])) in
    let behind = stands_behind (before ++ x ∷ []) xs in
    let behind' = subst (λ l. Stands l (length (before ++ x ∷ [])) xs) (append_assoc before (x ∷ []) xs) behind in
    (seam before x xs, subst (λ p. Stands (before ++ x ∷ xs) p xs) e behind')

-- a list stands in itself
pub stands_whole : {A : Type 0} (xs : List A) → Stands xs 0 xs
stands_whole xs = stands_behind [] xs
