-- A quotient of two cells, as the code wraps it.
use Rattle.std.proofs.Common.{◌≡◌, ℕ, suc, ◌+◌, ◌-◌, ◌/◌, ◌^◌, ◌<◌, ◌≤◌, ℤ, pos, negsuc, w64, to_z, of_z, int_div, arith, ap, ◌∙◌}
use Rattle.std.proofs.lemmas.Int.{of_z-to_z}
use Rattle.std.specs.Int.{int_wrapping_div}
use Rattle.std.proofs.lemmas.Nat.{pow_pos}
use Rattle.std.proofs.Math.Nat.{div-le_self}
use borrow.Author.Differences.{up, down, neg_is}
use Rattle.css_num.specs.Conversion.{modulo}
use Rattle.css_num.proofs.Congruence.{modulo_below}
use Rattle.css_isa.specs.Cells.{signed, quotient_of}

pub signed-is : (a : ℕ) → a < 2 ^ 64 → signed a ≡ to_z w64 a
signed-is a below = grind arith

-- a quotient is no further from zero than the dividend
quotient_within : (a b : ℤ) → up (int_div a b) + down (int_div a b) ≤ up a + down a
quotient_within (pos a) (pos b) = omega (arith, div-le_self a b)
quotient_within (pos a) (negsuc b) = omega (arith, neg_is (pos (a / suc b)), div-le_self a (suc b))
quotient_within (negsuc a) (pos b) = omega (arith, neg_is (pos (suc a / b)), div-le_self (suc a) b)
quotient_within (negsuc a) (negsuc b) = omega (arith, div-le_self (suc a) (suc b))

-- what has 64 bits is read back as it is
cell_read : (z : ℤ) → up z + down z < 2 ^ 64 → of_z w64 (to_z w64 (of_z w64 z)) ≡ modulo z (2 ^ 64)
cell_read (pos n) below = of_z-to_z w64 n (omega arith) ∙ omega arith
cell_read (negsuc n) below = of_z-to_z w64 (2 ^ 64 - suc n) (omega arith) ∙ omega arith

within : (a : ℕ) → a < 2 ^ 64 → up (to_z w64 a) + down (to_z w64 a) ≤ 2 ^ 63
within a below = grind arith

-- x and y are a and b with their signs
pub wrapped_quotient : (a b : ℕ) (x y q : ℤ) → a < 2 ^ 64 → b < 2 ^ 64 → x ≡ to_z w64 a → y ≡ to_z w64 b → q ≡ int_wrapping_div w64 (to_z w64 (of_z w64 x)) (to_z w64 (of_z w64 y)) → of_z w64 (to_z w64 (of_z w64 q)) ≡ quotient_of a b
wrapped_quotient a b x y q below below' x-is y-is q-is =
    let z : ℤ = int_div (to_z w64 a) (to_z w64 b) in
    let left : to_z w64 (of_z w64 x) ≡ to_z w64 a = rw x-is (ap (to_z w64) (of_z-to_z w64 a below)) in
    let right : to_z w64 (of_z w64 y) ≡ to_z w64 b = rw y-is (ap (to_z w64) (of_z-to_z w64 b below')) in
    let far = quotient_within (to_z w64 a) (to_z w64 b) in
    let near = within a below in
    let read = cell_read z (omega arith) in
    rw (signed-is a below, signed-is b below', q-is, left, right, read)
    (of_z-to_z w64 (modulo z (2 ^ 64)) (modulo_below z (2 ^ 64) (pow_pos 64)))
