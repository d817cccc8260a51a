-- Conversion after conversion, as a machine needs it that computes in wide cells and narrows.
use Rattle.std.proofs.Common.{ℕ, suc, ◌-◌, ◌^◌, ◌<◌, ◌≤◌, ◌≡◌, refl, ℤ, pos, negsuc, ◌+ℤ◌, ◌-ℤ◌, ◌*ℤ◌, neg_ℤ, Bool, true, false, leb, ltb, lit<, if◌then◌else◌, to_z, arith}
use Rattle.std.proofs.lemmas.Bool.{leb-true, leb-false, ltb-true, ltb-false}
use borrow.Author.Differences.{same_in, sum_is_lem, neg_is}
use mir.Val.{sel}
use Rattle.std.specs.Int.{w8, w16, w32, w64}
use Rattle.css_base.specs.declared.int_type.IntType.{IntType}
use Rattle.css_base.specs.declared.int_type.IntType.TheVariants.{SChar, Short, Int, UInt, Long, LongLong}
use Rattle.css_num.specs.Types.{bits_of}
use Rattle.css_num.specs.Conversion.{modulo, converted}
use Rattle.css_num.proofs.Congruence.{AreCongruent, modulo_below, congruent-add, congruent-sub, congruent-mul, congruent-neg, congruent-converted, converted-congruent}
use Rattle.css_num.proofs.Wrapping.{congruent_narrow}

-- s keeps what t needs of a number
pub congruent-converted_wide : (s t : IntType) (z : ℤ) → bits_of t ≤ bits_of s → AreCongruent (2 ^ bits_of t) (converted s z) z
congruent-converted_wide s t z narrow = congruent_narrow (bits_of s) (bits_of t) narrow (congruent-converted s z)

pub converted-converted : (s t : IntType) (z : ℤ) → bits_of t ≤ bits_of s → converted t (converted s z) ≡ converted t z
converted-converted s t z narrow = converted-congruent t (congruent-converted_wide s t z narrow)

-- `+`, `-`, `*` and unary `-` may be computed on converted operands
module _ (s t : IntType) (a b : ℤ) (narrow : bits_of t ≤ bits_of s) where
  pub converted-add : converted t (converted s a +ℤ converted s b) ≡ converted t (a +ℤ b)
  converted-add = converted-congruent t (congruent-add (congruent-converted_wide s t a narrow) (congruent-converted_wide s t b narrow))

  pub converted-sub : converted t (converted s a -ℤ converted s b) ≡ converted t (a -ℤ b)
  converted-sub = converted-congruent t (congruent-sub (congruent-converted_wide s t a narrow) (congruent-converted_wide s t b narrow))

  pub converted-mul : converted t (converted s a *ℤ converted s b) ≡ converted t (a *ℤ b)
  converted-mul = converted-congruent t (congruent-mul (congruent-converted_wide s t a narrow) (congruent-converted_wide s t b narrow))

pub converted-neg : (s t : IntType) (a : ℤ) → bits_of t ≤ bits_of s → converted t (neg_ℤ (converted s a)) ≡ converted t (neg_ℤ a)
converted-neg s t a narrow = converted-congruent t (congruent-neg (congruent-converted_wide s t a narrow))

-- ---- the signed types read their lowest bits as std's do

reads : (n h r : ℕ) → r < n → (high small : Bool) → leb h r ≡ high → ltb r h ≡ small → (if high then pos r -ℤ pos n else pos r) ≡ sel small (pos r) (negsuc (n - suc r))
reads n h r below true true e f = absurd (omega (arith, leb-true h r e, ltb-true r h f))
reads n h r below true false e f = same_in (pos r -ℤ pos n) (negsuc (n - suc r)) (omega (arith, sum_is_lem (pos r) (neg_ℤ (pos n)), neg_is (pos n)))
reads n h r below false true e f = refl
reads n h r below false false e f = absurd (omega (arith, leb-false h r e, ltb-false r h f))

signed_reading : (n h : ℕ) (z : ℤ) → 0 < n → let r = modulo z n in (if leb h r then pos r -ℤ pos n else pos r) ≡ sel (ltb r h) (pos r) (negsuc (n - suc r))
signed_reading n h z some = let r = modulo z n in reads n h r (modulo_below z n some) (leb h r) (ltb r h) refl refl

pub converted-SChar : (z : ℤ) → converted SChar z ≡ to_z w8 (modulo z (2 ^ 8))
converted-SChar z = signed_reading (2 ^ 8) (2 ^ 7) z (lit< tt)

pub converted-Short : (z : ℤ) → converted Short z ≡ to_z w16 (modulo z (2 ^ 16))
converted-Short z = signed_reading (2 ^ 16) (2 ^ 15) z (lit< tt)

pub converted-Int : (z : ℤ) → converted Int z ≡ to_z w32 (modulo z (2 ^ 32))
converted-Int z = signed_reading (2 ^ 32) (2 ^ 31) z (lit< tt)

pub converted-Long : (z : ℤ) → converted Long z ≡ to_z w32 (modulo z (2 ^ 32))
converted-Long z = signed_reading (2 ^ 32) (2 ^ 31) z (lit< tt)

pub converted-LongLong : (z : ℤ) → converted LongLong z ≡ to_z w64 (modulo z (2 ^ 64))
converted-LongLong z = signed_reading (2 ^ 64) (2 ^ 63) z (lit< tt)

-- and the unsigned types as they are
pub converted-UInt : (z : ℤ) → converted UInt z ≡ pos (modulo z (2 ^ 32))
converted-UInt z = refl
