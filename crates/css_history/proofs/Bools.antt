-- Booleans, and numbers that are among others.
use Rattle.std.proofs.Common.{◌≡◌, ◌≢◌, ◌⊎◌, ℕ, ◌==◌, ◌||◌, not, Bool, true, false, true≢false, List, [], ◌∷◌, ◌++◌, refl, sym, ◌∙◌, ap, inl, inr}
use Rattle.std.proofs.lemmas.Bool.{cases_Bool, eqb-true, ne_eqb, eq-eqb}
use Rattle.css_graph.specs.Tasks.{is_among}
use Rattle.css_history.specs.Histories.{without}

pub or_either : (a b : Bool) → (a || b) ≡ true → (a ≡ true) ⊎ (b ≡ true)
or_either true b e = inl refl
or_either false b e = inr e

pub or_right : (a b : Bool) → b ≡ true → (a || b) ≡ true
or_right true b e = refl
or_right false b e = e

pub or_left : (a b : Bool) → a ≡ true → (a || b) ≡ true
or_left true b e = refl
or_left false b e = absurd (true≢false (sym e))

pub or_neither : (a b : Bool) → (a || b) ≡ false → (a ≡ false) × (b ≡ false)
or_neither true b e = absurd (true≢false e)
or_neither false b e = (refl, e)

pub both_false : (a b : Bool) → a ≡ false → b ≡ false → (a || b) ≡ false
both_false true b e f = absurd (true≢false e)
both_false false b e f = f

-- one number alone
pub among_one : (n k : ℕ) → is_among (n ∷ []) k ≡ true → n ≡ k
among_one n k e = elim (or_either (n == k) false e) [ inl same ↦ eqb-true n k same | inr none ↦ absurd (true≢false (sym none)) ]

pub not_among_one : (n k : ℕ) → n ≢ k → is_among (n ∷ []) k ≡ false
not_among_one n k apart = both_false (n == k) false (ne_eqb n k apart) refl

-- what is left without a number
pub among_without : (n k : ℕ) (numbers : List ℕ) → is_among (without n numbers) k ≡ true → (n ≢ k) × (is_among numbers k ≡ true)
among_without n k [] e = absurd (true≢false (sym e))
among_without n k (m ∷ numbers) e = elim (cases_Bool (m == n)) [
  | inl same ↦
      let rest = among_without n k numbers (rw same at e) in
      (rest.0, or_right (m == k) (is_among numbers k) rest.1)
  | inr apart ↦
      let whole : ((m == k) || is_among (without n numbers) k) ≡ true = rw apart at e in
      elim (or_either (m == k) (is_among (without n numbers) k) whole) [
        | inl here ↦ ((λ same. true≢false (sym (eq-eqb m n (eqb-true m k here ∙ sym same)) ∙ apart)), or_left (m == k) (is_among numbers k) here)
        | inr there ↦ let rest = among_without n k numbers there in (rest.0, or_right (m == k) (is_among numbers k) rest.1)
      ]
]

-- a number that isn't there is not missed
pub without_same : (n : ℕ) (numbers : List ℕ) → is_among numbers n ≡ false → without n numbers ≡ numbers
without_same n [] e = refl
without_same n (m ∷ numbers) e =
    let parts = or_neither (m == n) (is_among numbers n) e in
    let rest = without_same n numbers parts.1 in
    rw parts.0 (ap (λ l. m ∷ l) rest)
