-- The ranges of the types, and what stays in them.
use Rattle.std.proofs.Common.{ℕ, suc, ◌+◌, ◌-◌, ◌*◌, ◌%◌, ◌^◌, ◌<◌, ◌≤◌, ◌≡◌, refl, ap, ◌∙◌, ℤ, pos, negsuc, ◌+ℤ◌, ◌-ℤ◌, ◌*ℤ◌, ◌≤ℤ◌, neg_ℤ, int_div, int_rem, unsigned_abs, arith, Bool, true, false, ◌&&◌, ⊎_elim, nat_le, if◌then◌else◌}
use Rattle.std.proofs.lemmas.Int.{quot-rem}
use Rattle.std.proofs.lemmas.Nat.{pow_pos}
use Rattle.std.proofs.lemmas.Bool.{cases_order, leb-true, leb-false}
use Rattle.std.proofs.Math.Nat.{mul-le-mul_right, mod-le, div-le_self}
use borrow.Author.Differences.{up, down, same_in, same_out, sum_is_lem, neg_is, at_most_in, le_out}
use Rattle.css_base.specs.declared.int_type.IntType.{IntType}
use Rattle.css_base.specs.declared.int_type.IntType.TheVariants.{UChar, SChar, Short, UShort, Int, UInt, Long, ULong, LongLong, ULongLong}
use Rattle.css_num.specs.Types.{bits_of, has_sign, half_of, least, greatest, IsInRange}
use Rattle.css_num.specs.Conversion.{representation, represented, converted}
use Rattle.css_num.specs.Operators.{remainder, floor_quotient}
use Rattle.css_num.proofs.Congruence.{AreCongruent, congruent_refl, congruent-sub, congruent-mul, modulo_below, halves, congruent-converted, converted-congruent}

-- from least to greatest the type has 2 to its bits values, and 0 is one of them
pub span : (t : IntType) → (up (greatest t) + down (least t) + 1 ≡ 2 ^ bits_of t) × (down (greatest t) ≡ 0) × (up (least t) ≡ 0) × (down (least t) ≤ 2 ^ 63) × (up (greatest t) < 2 ^ 64)
span UChar = (refl, refl, refl, omega arith, omega arith)
span SChar = (refl, refl, refl, omega arith, omega arith)
span Short = (refl, refl, refl, omega arith, omega arith)
span UShort = (refl, refl, refl, omega arith, omega arith)
span Int = (refl, refl, refl, omega arith, omega arith)
span UInt = (refl, refl, refl, omega arith, omega arith)
span Long = (refl, refl, refl, omega arith, omega arith)
span ULong = (refl, refl, refl, omega arith, omega arith)
span LongLong = (refl, refl, refl, omega arith, omega arith)
span ULongLong = (refl, refl, refl, omega arith, omega arith)

-- each value is one of 64 bits, with a sign or without
pub wide : (t : IntType) (v : ℤ) → IsInRange t v → (up v < down v + 2 ^ 64) × (down v ≤ up v + 2 ^ 63)
wide t v h = omega (arith, span t, le_out (least t) v h.at_least, le_out v (greatest t) h.at_most)

-- ---- conversion

signed_read : (n h r : ℕ) → n ≡ h + h → 1 ≤ h → r < n → (high : Bool) → nat_le h r ≡ high
    → let v = if high then pos r -ℤ pos n else pos r in (neg_ℤ (pos h) ≤ℤ v) × (v ≤ℤ pos (h - 1))
signed_read n h r e some below true is =
    let above : h ≤ r = leb-true h r is in
    let v = pos r -ℤ pos n in
    let value : up v + n ≡ down v + r = omega (arith, sum_is_lem (pos r) (neg_ℤ (pos n)), neg_is (pos n)) in
    (at_most_in (neg_ℤ (pos h)) v (omega (arith, neg_is (pos h))), at_most_in v (pos (h - 1)) (omega arith))
signed_read n h r e some below false is =
    let under : r < h = leb-false h r is in
    (at_most_in (neg_ℤ (pos h)) (pos r) (omega (arith, neg_is (pos h))), at_most_in (pos r) (pos (h - 1)) (omega arith))

read_in_range : (sign : Bool) (n h r : ℕ) → n ≡ h + h → 1 ≤ h → r < n
    → let v = if sign && nat_le h r then pos r -ℤ pos n else pos r in ((if sign then neg_ℤ (pos h) else pos 0) ≤ℤ v) × (v ≤ℤ (if sign then pos (h - 1) else pos (n - 1)))
read_in_range true n h r e some below = signed_read n h r e some below (nat_le h r) refl
read_in_range false n h r e some below = (at_most_in (pos 0) (pos r) (omega arith), at_most_in (pos r) (pos (n - 1)) (omega arith))

pub represented_in_range : (t : IntType) (r : ℕ) → r < 2 ^ bits_of t → IsInRange t (represented t r)
represented_in_range t r below =
    let twice = halves t in
    let between = read_in_range (has_sign t) (2 ^ bits_of t) (half_of t) r twice.0 twice.1 below in
    record { at_least = between.0; at_most = between.1 }

pub converted_in_range : (t : IntType) (z : ℤ) → IsInRange t (converted t z)
converted_in_range t z = represented_in_range t (representation t z) (modulo_below z (2 ^ bits_of t) (pow_pos (bits_of t)))

-- numbers less than n apart that differ by a multiple of n are one
close : (n i j x y : ℕ) → x + i * n ≡ y + j * n → x < y + n → y < x + n → x ≡ y
close n i j x y e below above = ⊎_elim
    (λ (equal : i ≡ j). let times = ap (λ k. k * n) equal in omega arith)
    (⊎_elim (λ (less : i < j). absurd (omega (arith, mul-le-mul_right n less))) (λ (more : j < i). absurd (omega (arith, mul-le-mul_right n more))))
    (cases_order i j)

pub one_in_range : (t : IntType) (a b : ℤ) → IsInRange t a → IsInRange t b → AreCongruent (2 ^ bits_of t) a b → a ≡ b
one_in_range t a b h k same =
    same_in a b (close (2 ^ bits_of t) same.left same.right (up a + down b) (up b + down a) same.same
    (omega (arith, span t, le_out a (greatest t) h.at_most, le_out (least t) b k.at_least))
    (omega (arith, span t, le_out b (greatest t) k.at_most, le_out (least t) a h.at_least)))

pub converted-value : (t : IntType) (v : ℤ) → IsInRange t v → converted t v ≡ v
converted-value t v h = one_in_range t (converted t v) v (converted_in_range t v) h (congruent-converted t v)

-- ---- from a value toward zero

pub toward_zero : (t : IntType) (a v : ℤ) → IsInRange t a → up v ≤ up a → down v ≤ down a → IsInRange t v
toward_zero t (pos n) v h above below = record {
  at_least = at_most_in (least t) v (omega (arith, span t, le_out (least t) (pos n) h.at_least));
  at_most = at_most_in v (greatest t) (omega (arith, span t, le_out (pos n) (greatest t) h.at_most));
}
toward_zero t (negsuc n) v h above below = record {
  at_least = at_most_in (least t) v (omega (arith, span t, le_out (least t) (negsuc n) h.at_least));
  at_most = at_most_in v (greatest t) (omega (arith, span t, le_out (negsuc n) (greatest t) h.at_most));
}

rem_toward_zero : (a b : ℤ) → (up (int_rem a b) ≤ up a) × (down (int_rem a b) ≤ down a)
rem_toward_zero (pos n) b = (mod-le n (unsigned_abs b), omega arith)
rem_toward_zero (negsuc n) b = omega (arith, neg_is (pos (suc n % unsigned_abs b)), mod-le (suc n) (unsigned_abs b))

floor_toward_zero : (a : ℤ) (n : ℕ) → (up (floor_quotient a n) ≤ up a) × (down (floor_quotient a n) ≤ down a)
floor_toward_zero (pos m) n = (div-le_self m n, omega arith)
floor_toward_zero (negsuc m) n = (omega arith, omega (arith, div-le_self m n))

pub int_rem_in_range : (t : IntType) (a b : ℤ) → IsInRange t a → IsInRange t (int_rem a b)
int_rem_in_range t a b h = let less = rem_toward_zero a b in toward_zero t a (int_rem a b) h less.0 less.1

pub floor_in_range : (t : IntType) (a : ℤ) (n : ℕ) → IsInRange t a → IsInRange t (floor_quotient a n)
floor_in_range t a n h = let less = floor_toward_zero a n in toward_zero t a (floor_quotient a n) h less.0 less.1

-- ---- division

rest : (a b : ℤ) → a -ℤ int_div a b *ℤ b ≡ int_rem a b
rest a b =
    let product = int_div a b *ℤ b in
    let split = same_out (product +ℤ int_rem a b) a (quot-rem a b) in
    same_in (a -ℤ product) (int_rem a b) (omega (arith, split, sum_is_lem product (int_rem a b), sum_is_lem a (neg_ℤ product), neg_is product))

pub remainder-is : (t : IntType) (a b : ℤ) → IsInRange t a → remainder t a b ≡ int_rem a b
remainder-is t a b h =
    converted-congruent t (congruent-sub (congruent_refl (2 ^ bits_of t) a) (congruent-mul (congruent-converted t (int_div a b)) (congruent_refl (2 ^ bits_of t) b)))
    ∙ ap (converted t) (rest a b)
    ∙ converted-value t (int_rem a b) (int_rem_in_range t a b h)
