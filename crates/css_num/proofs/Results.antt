-- What the code returns, which reads each number of 128 bits back from its bits.
use Rattle.std.proofs.Common.{ℕ, zero, suc, ◌+◌, ◌/◌, ◌^◌, ◌<◌, ◌≤◌, ◌≡◌, refl, sym, subst, ◌∙◌, ℤ, pos, negsuc, int_div, int_rem, arith, FitsSigned, to_z, of_z, Some}
use Rattle.std.specs.Int.{w128}
use Rattle.std.proofs.lemmas.Int.{ints, to_z-of_z, quot_is, rem_is}
use Rattle.std.proofs.Math.Nat.{div-le_self}
use borrow.Author.Differences.{up, down, neg_is, fits_in}
use Rattle.css_base.specs.declared.int_type.IntType.{IntType}
use Rattle.css_num.specs.Types.{IsInRange}
use Rattle.css_num.specs.Conversion.{converted}
use Rattle.css_num.specs.Operators.{remainder, unless_zero}
use Rattle.css_num.proofs.Ranges.{wide, converted_in_range, remainder-is}

-- a number's bits, read back
abbrev pub read_back : ℤ → ℤ
read_back z = to_z w128 (of_z w128 z)

pub in_range_fits : (t : IntType) (v : ℤ) → IsInRange t v → FitsSigned w128 v
in_range_fits t v h = let bounds = wide t v h in fits_in w128 v (omega arith)

-- a result of `convert`
pub read_converted : (t : IntType) (r z v : ℤ) → r ≡ converted t z → converted t z ≡ v → read_back r ≡ v
read_converted t r z v is value =
    let same = is ∙ value in
    let P : ℤ → Type 0 = FitsSigned w128 in
    to_z-of_z w128 r (subst P (sym is) (in_range_fits t (converted t z) (converted_in_range t z))) ∙ same

-- ---- division

positive : (n : ℕ) (v : ℤ) → 0 < n → unless_zero (pos n) v ≡ Some v
positive n v h = grind (arith, ints)

pub unless_zero-nonzero : {v : ℤ} (divisor : ℤ) → (of_z w128 divisor ≡ 0 → ⊥) → unless_zero divisor v ≡ Some v
unless_zero-nonzero (pos zero) nonzero = absurd (nonzero refl)
unless_zero-nonzero {v} (pos (suc n)) nonzero = positive (suc n) v (omega arith)
unless_zero-nonzero (negsuc n) nonzero = refl

int_div_small : (a b : ℤ) → (up (int_div a b) ≤ up a + down a) × (down (int_div a b) ≤ up a + down a)
int_div_small (pos a) (pos b) = omega (arith, div-le_self a b)
int_div_small (pos a) (negsuc b) = omega (arith, neg_is (pos (a / suc b)), div-le_self a (suc b))
int_div_small (negsuc a) (pos b) = omega (arith, neg_is (pos (suc a / b)), div-le_self (suc a) b)
int_div_small (negsuc a) (negsuc b) = omega (arith, div-le_self (suc a) (suc b))

one_sign : (z : ℤ) (m n : ℕ) → up z < down z + m → down z ≤ up z + n → up z + down z ≤ m + n
one_sign (pos a) m n h k = omega arith
one_sign (negsuc a) m n h k = omega arith

pub read_quotient : (t : IntType) (a b : ℤ) → IsInRange t a → FitsSigned w128 a → FitsSigned w128 b → read_back (int_div (read_back a) (read_back b)) ≡ int_div a b
read_quotient t a b h f g =
    let bounds = wide t a h in
    let size : up a + down a ≤ 2 ^ 64 + 2 ^ 63 = one_sign a (2 ^ 64) (2 ^ 63) bounds.0 bounds.1 in
    quot_is w128 a b f g (fits_in w128 (int_div a b) (omega (arith, int_div_small a b)))

pub read_remainder : (t : IntType) (a b : ℤ) → IsInRange t a → FitsSigned w128 a → FitsSigned w128 b → read_back (int_rem (read_back a) (read_back b)) ≡ remainder t a b
read_remainder t a b h f g = rem_is w128 a b f g ∙ sym (remainder-is t a b h)
