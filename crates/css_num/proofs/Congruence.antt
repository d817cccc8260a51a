-- Congruence of whole numbers, and what it says of `modulo` and `converted`.
use Rattle.std.proofs.Common.{ℕ, ◌+◌, ◌-◌, ◌*◌, ◌/◌, ◌%◌, ◌^◌, ◌<◌, ◌≤◌, ◌≡◌, refl, sym, ap, ◌∙◌, ℤ, pos, negsuc, ◌+ℤ◌, ◌-ℤ◌, ◌*ℤ◌, neg_ℤ, unsigned_abs, arith, lit≤, Bool, true, false, nat_le, ◌&&◌, if◌then◌else◌}
use Rattle.std.proofs.lemmas.Int.{ints, int_rem_euclid_is}
use Rattle.std.proofs.lemmas.Nat.{div-add-mod', pow_pos, mod_below}
use Rattle.std.proofs.Math.Nat.{mul-le-mul_left}
use borrow.Author.Differences.{up, down, same_in, same_out, sum_is_lem, neg_is, product_is}
use Rattle.css_base.specs.declared.int_type.IntType.{IntType}
use Rattle.css_base.specs.declared.int_type.IntType.TheVariants.{UChar, SChar, Short, UShort, Int, UInt, Long, ULong, LongLong, ULongLong}
use Rattle.css_num.specs.Types.{bits_of, has_sign, half_of}
use Rattle.css_num.specs.Conversion.{modulo, representation, represented, converted, IsCongruent}

-- a plus `left` times n is b plus `right` times n, over naturals
pub record AreCongruent (n : ℕ) (a b : ℤ) : Type 0 where
  pub left : ℕ
  pub right : ℕ
  pub same : up a + down b + left * n ≡ up b + down a + right * n

pub congruent_refl : (n : ℕ) (a : ℤ) → AreCongruent n a a
congruent_refl n a = record { left = 0; right = 0; same = refl }

pub congruent_sym : {n : ℕ} {a b : ℤ} → AreCongruent n a b → AreCongruent n b a
congruent_sym h = record { left = h.right; right = h.left; same = sym h.same }

pub congruent_trans : {n : ℕ} {a b c : ℤ} → AreCongruent n a b → AreCongruent n b c → AreCongruent n a c
congruent_trans h k = record { left = h.left + k.left; right = h.right + k.right; same = omega arith }

pub congruent-add : {n : ℕ} {a b c d : ℤ} → AreCongruent n a b → AreCongruent n c d → AreCongruent n (a +ℤ c) (b +ℤ d)
congruent-add {a} {b} {c} {d} h k = record { left = h.left + k.left; right = h.right + k.right; same = omega (arith, sum_is_lem a c, sum_is_lem b d) }

pub congruent-neg : {n : ℕ} {a b : ℤ} → AreCongruent n a b → AreCongruent n (neg_ℤ a) (neg_ℤ b)
congruent-neg {a} {b} h = record { left = h.right; right = h.left; same = omega (arith, neg_is a, neg_is b) }

pub congruent-sub : {n : ℕ} {a b c d : ℤ} → AreCongruent n a b → AreCongruent n c d → AreCongruent n (a -ℤ c) (b -ℤ d)
congruent-sub h k = congruent-add h (congruent-neg k)

-- the first factor may be replaced, and the second
congruent-mul_left : {n : ℕ} {a b : ℤ} (c : ℤ) → AreCongruent n a b → AreCongruent n (a *ℤ c) (b *ℤ c)
congruent-mul_left {a} {b} c h =
    let above = ap (λ x. x * up c) h.same in
    let below = ap (λ x. x * down c) h.same in
    record {
      left = h.left * up c + h.right * down c;
      right = h.right * up c + h.left * down c;
      same = omega (arith, product_is a c, product_is b c);
    }

congruent-mul_right : {n : ℕ} {c d : ℤ} (a : ℤ) → AreCongruent n c d → AreCongruent n (a *ℤ c) (a *ℤ d)
congruent-mul_right {c} {d} a h =
    let above = ap (λ x. x * up a) h.same in
    let below = ap (λ x. x * down a) h.same in
    record {
      left = h.left * up a + h.right * down a;
      right = h.right * up a + h.left * down a;
      same = omega (arith, product_is a c, product_is a d);
    }

pub congruent-mul : {n : ℕ} {a b c d : ℤ} → AreCongruent n a b → AreCongruent n c d → AreCongruent n (a *ℤ c) (b *ℤ d)
congruent-mul {b} {c} h k = congruent_trans (congruent-mul_left c h) (congruent-mul_right b k)

-- a modulus that divides another
pub congruent_below : {n : ℕ} {a b : ℤ} (i m : ℕ) → n ≡ i * m → AreCongruent n a b → AreCongruent m a b
congruent_below i m e h =
    let first = ap (λ x. h.left * x) e in
    let second = ap (λ x. h.right * x) e in
    record { left = h.left * i; right = h.right * i; same = omega arith }

-- ---- `modulo`

modulo-is : (z : ℤ) (n k m : ℕ) → 0 < n → z +ℤ pos (k * n) ≡ pos m → modulo z n ≡ m % n
modulo-is (pos a) n k m some e = ap unsigned_abs (int_rem_euclid_is (pos a) (pos n) n k m some refl e)
modulo-is (negsuc a) n k m some e = ap unsigned_abs (int_rem_euclid_is (negsuc a) (pos n) n k m some refl e)

pub modulo-congruent : (n : ℕ) {a b : ℤ} → 0 < n → AreCongruent n a b → modulo a n ≡ modulo b n
modulo-congruent n {a} {b} some h =
    let t = down a + down b in
    let far : t * 1 ≤ t * n = mul-le-mul_left t some in
    let m = up a + (h.left + t) * n - down a in
    modulo-is a n (h.left + t) m some (omega (arith, ints)) ∙ sym (modulo-is b n (h.right + t) m some (omega (arith, ints)))

pub modulo_below : (z : ℤ) (n : ℕ) → 0 < n → modulo z n < n
modulo_below (pos a) n some = mod_below a n some
modulo_below (negsuc a) n some = omega arith

pub congruent-modulo : (z : ℤ) (n : ℕ) → 0 < n → AreCongruent n (pos (modulo z n)) z
congruent-modulo (pos a) n some = record { left = a / n; right = 0; same = omega (arith, div-add-mod' a n) }
congruent-modulo (negsuc a) n some = record { left = 0; right = a / n + 1; same = omega (arith, div-add-mod' a n, mod_below a n some) }

-- ---- the relation of the definitions

pub congruent_out : {n : ℕ} {a b : ℤ} → AreCongruent n a b → IsCongruent n a b
congruent_out {n} {a} {b} h =
    let k = pos h.right -ℤ pos h.left in
    let count : up k + h.left ≡ down k + h.right = omega (arith, sum_is_lem (pos h.right) (neg_ℤ (pos h.left)), neg_is (pos h.left)) in
    let times = ap (λ x. x * n) count in
    (k, same_in a (b +ℤ k *ℤ pos n) (omega (arith, sum_is_lem b (k *ℤ pos n), product_is k (pos n))))

pub congruent_in : (n : ℕ) (a b : ℤ) → IsCongruent n a b → AreCongruent n a b
congruent_in n a b (k, e) =
    record { left = down k; right = up k; same = omega (arith, same_out a (b +ℤ k *ℤ pos n) e, sum_is_lem b (k *ℤ pos n), product_is k (pos n)) }

-- ---- `converted`

-- 2 to the type's bits is twice the half
pub halves : (t : IntType) → (2 ^ bits_of t ≡ half_of t + half_of t) × (1 ≤ half_of t)
halves UChar = (refl, lit≤ tt)
halves SChar = (refl, lit≤ tt)
halves Short = (refl, lit≤ tt)
halves UShort = (refl, lit≤ tt)
halves Int = (refl, lit≤ tt)
halves UInt = (refl, lit≤ tt)
halves Long = (refl, lit≤ tt)
halves ULong = (refl, lit≤ tt)
halves LongLong = (refl, lit≤ tt)
halves ULongLong = (refl, lit≤ tt)

read_congruent : (sign : Bool) (n r : ℕ) → AreCongruent n (if sign then pos r -ℤ pos n else pos r) (pos r)
read_congruent true n r = record { left = 1; right = 0; same = omega (arith, sum_is_lem (pos r) (neg_ℤ (pos n)), neg_is (pos n)) }
read_congruent false n r = congruent_refl n (pos r)

pub congruent-represented : (t : IntType) (r : ℕ) → AreCongruent (2 ^ bits_of t) (represented t r) (pos r)
congruent-represented t r = read_congruent (has_sign t && nat_le (half_of t) r) (2 ^ bits_of t) r

pub congruent-converted : (t : IntType) (z : ℤ) → AreCongruent (2 ^ bits_of t) (converted t z) z
congruent-converted t z = congruent_trans (congruent-represented t (representation t z)) (congruent-modulo z (2 ^ bits_of t) (pow_pos (bits_of t)))

pub converted-congruent : (t : IntType) {a b : ℤ} → AreCongruent (2 ^ bits_of t) a b → converted t a ≡ converted t b
converted-congruent t h = ap (represented t) (modulo-congruent (2 ^ bits_of t) (pow_pos (bits_of t)) h)
