-- What is kept modulo 2 to a type's bits where the code works in 128.
use Rattle.std.proofs.Common.{ℕ, suc, ◌+◌, ◌-◌, ◌*◌, ◌/◌, ◌%◌, ◌^◌, ◌<◌, ◌≤◌, ◌≡◌, sym, ap, ◌∙◌, lit≤, ℤ, pos, negsuc, ◌*ℤ◌, arith, Bool, true, false, ltb, bit_and, FitsSigned, to_z, of_z}
use Rattle.std.specs.Int.{w128}
use Rattle.std.proofs.lemmas.Nat.{div-add-mod', pow_pos, pow-add, mod_below, and_mask, one_shl}
use mir.Val.{sel}
use Rattle.css_base.specs.declared.int_type.IntType.{IntType}
use Rattle.css_base.specs.declared.int_type.IntType.TheVariants.{UChar, SChar, Short, UShort, Int, UInt, Long, ULong, LongLong, ULongLong}
use Rattle.css_num.specs.Types.{bits_of}
use Rattle.css_num.specs.Conversion.{modulo, converted}
use Rattle.css_num.proofs.Congruence.{AreCongruent, congruent_refl, congruent_trans, congruent-mul, congruent_below, modulo-congruent, converted-congruent}

-- the bits of a number in 128, and the number that bits stand for
congruent-bits : (z : ℤ) → FitsSigned w128 z → AreCongruent (2 ^ 128) (pos (of_z w128 z)) z
congruent-bits (pos a) fits = congruent_refl (2 ^ 128) (pos a)
congruent-bits (negsuc a) fits = record { left = 0; right = 1; same = omega (arith, fits.sfits) }

congruent-number : (n : ℕ) → n < 2 ^ 128 → AreCongruent (2 ^ 128) (to_z w128 n) (pos n)
congruent-number n below = read (ltb n (2 ^ 127))
  where
    read : (small : Bool) → AreCongruent (2 ^ 128) (sel small (pos n) (negsuc (2 ^ 128 - suc n))) (pos n)
    read true = congruent_refl (2 ^ 128) (pos n)
    read false = record { left = 1; right = 0; same = omega arith }

congruent-mod : (m n : ℕ) → AreCongruent n (pos (m % n)) (pos m)
congruent-mod m n = record { left = m / n; right = 0; same = omega (arith, div-add-mod' m n) }

-- a power of two divides each higher one
pub congruent_narrow : {a b : ℤ} (j k : ℕ) → k ≤ j → AreCongruent (2 ^ j) a b → AreCongruent (2 ^ k) a b
congruent_narrow j k below h =
    let sum : j - k + k ≡ j = omega arith in
    congruent_below (2 ^ (j - k)) (2 ^ k) (ap (λ n. 2 ^ n) (sym sum) ∙ pow-add 2 (j - k) k) h

few_bits : (t : IntType) → bits_of t ≤ 128
few_bits UChar = lit≤ tt
few_bits SChar = lit≤ tt
few_bits Short = lit≤ tt
few_bits UShort = lit≤ tt
few_bits Int = lit≤ tt
few_bits UInt = lit≤ tt
few_bits Long = lit≤ tt
few_bits ULong = lit≤ tt
few_bits LongLong = lit≤ tt
few_bits ULongLong = lit≤ tt

-- the lowest bits of a number are the number modulo a power of two
pub low_bits-modulo : (z : ℤ) (k : ℕ) → k ≤ 64 → FitsSigned w128 z → bit_and (of_z w128 z) (1 * 2 ^ k % 2 ^ 128 - 1) ≡ modulo z (2 ^ k)
low_bits-modulo z k below fits =
    let wide : k ≤ 128 = omega arith in
    let narrow : k < 128 = omega arith in
    ap (λ n. bit_and (of_z w128 z) (n - 1)) (one_shl k 128 narrow)
    ∙ and_mask (of_z w128 z) k
    ∙ modulo-congruent (2 ^ k) (pow_pos k) (congruent_narrow 128 k wide (congruent-bits z fits))

-- a product in 128 bits
pub converted-product : (t : IntType) (a b : ℤ) (n : ℕ) → FitsSigned w128 a → AreCongruent (2 ^ 128) (pos n) b → converted t (to_z w128 (of_z w128 a * n % 2 ^ 128)) ≡ converted t (a *ℤ b)
converted-product t a b n fits same =
    let m = of_z w128 a * n in
    converted-congruent t (congruent_narrow 128 (bits_of t) (few_bits t)
    (congruent_trans (congruent-number (m % 2 ^ 128) (mod_below m (2 ^ 128) (pow_pos 128)))
    (congruent_trans (congruent-mod m (2 ^ 128)) (congruent-mul (congruent-bits a fits) same))))

pub converted-wrapping_mul : (t : IntType) (a b : ℤ) → FitsSigned w128 a → FitsSigned w128 b → converted t (to_z w128 (of_z w128 a * of_z w128 b % 2 ^ 128)) ≡ converted t (a *ℤ b)
converted-wrapping_mul t a b fits fits' = converted-product t a b (of_z w128 b) fits (congruent-bits b fits')

pub converted-shl : (t : IntType) (a : ℤ) (k : ℕ) → FitsSigned w128 a → converted t (to_z w128 (of_z w128 a * 2 ^ k % 2 ^ 128)) ≡ converted t (a *ℤ pos (2 ^ k))
converted-shl t a k fits = converted-product t a (pos (2 ^ k)) (2 ^ k) fits (congruent_refl (2 ^ 128) (pos (2 ^ k)))
