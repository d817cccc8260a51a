-- Cells of ints: a cell is congruent to its number, and holds an int with its sign.
use Rattle.std.proofs.Common.{◌≡◌, ℕ, ◌+◌, ◌-◌, ◌*◌, ◌%◌, ◌^◌, ◌<◌, ◌≤◌, ℤ, pos, ◌+ℤ◌, ◌-ℤ◌, ◌*ℤ◌, neg_ℤ, Bool, true, false, refl, ap, subst, arith, lit≤}
use Rattle.std.proofs.lemmas.Nat.{pow_pos}
use borrow.Author.Differences.{same_in, sum_is_lem, neg_is, at_most_in, le_out}
use Rattle.css_base.specs.declared.int_type.IntType.TheVariants.{Int, LongLong}
use Rattle.css_num.specs.Types.{least, greatest, IsInRange}
use Rattle.css_num.specs.Conversion.{converted}
use Rattle.css_num.specs.Operators.{truth_value}
use Rattle.css_num.proofs.Congruence.{AreCongruent, congruent_refl, congruent_trans, congruent-add, congruent-sub, congruent-mul, congruent-modulo, converted-congruent, modulo_below}
use Rattle.css_num.proofs.Ranges.{converted-value}
use Rattle.css_num.proofs.Wrapping.{congruent_narrow}
use Rattle.css_vm.specs.declared.code.Narrow.TheVariants.{S32}
use Rattle.css_vm.specs.Cells.{cell_of, signed, truth, sum_of, difference_of, product_of, negative_of, narrowed}

-- ---- a cell and its number are congruent

pub congruent-cell : (z : ℤ) → AreCongruent (2 ^ 64) (pos (cell_of z)) z
congruent-cell z = congruent-modulo z (2 ^ 64) (pow_pos 64)

-- a cell that is taken modulo 2^64
congruent-wrapped : (m : ℕ) → AreCongruent (2 ^ 64) (pos (m % 2 ^ 64)) (pos m)
congruent-wrapped m = congruent-modulo (pos m) (2 ^ 64) (pow_pos 64)

pub congruent-sum_of : (a b : ℕ) {x y : ℤ} → AreCongruent (2 ^ 64) (pos a) x → AreCongruent (2 ^ 64) (pos b) y → AreCongruent (2 ^ 64) (pos (sum_of a b)) (x +ℤ y)
congruent-sum_of a b h k = congruent_trans (congruent-wrapped (a + b)) (congruent-add h k)

pub congruent-product_of : (a b : ℕ) {x y : ℤ} → AreCongruent (2 ^ 64) (pos a) x → AreCongruent (2 ^ 64) (pos b) y → AreCongruent (2 ^ 64) (pos (product_of a b)) (x *ℤ y)
congruent-product_of a b h k = congruent_trans (congruent-wrapped (a * b)) (congruent-mul h k)

-- a number less another below n, by way of n
by_way_of : (n a b : ℕ) → b ≤ n → AreCongruent n (pos (a + (n - b))) (pos a -ℤ pos b)
by_way_of n a b below = record { left = 0; right = 1; same = omega (arith, sum_is_lem (pos a) (neg_ℤ (pos b)), neg_is (pos b)) }

pub congruent-difference_of : (a b : ℕ) {x y : ℤ} → b ≤ 2 ^ 64 → AreCongruent (2 ^ 64) (pos a) x → AreCongruent (2 ^ 64) (pos b) y → AreCongruent (2 ^ 64) (pos (difference_of a b)) (x -ℤ y)
congruent-difference_of a b below h k = congruent_trans (congruent-wrapped (a + (2 ^ 64 - b))) (congruent_trans (by_way_of (2 ^ 64) a b below) (congruent-sub h k))

pub congruent-negative_of : (b : ℕ) {y : ℤ} → b ≤ 2 ^ 64 → AreCongruent (2 ^ 64) (pos b) y → AreCongruent (2 ^ 64) (pos (negative_of b)) (neg_ℤ y)
congruent-negative_of b {y} below h =
    let zero_less : pos 0 -ℤ y ≡ neg_ℤ y = same_in (pos 0 -ℤ y) (neg_ℤ y) (omega (arith, sum_is_lem (pos 0) (neg_ℤ y))) in
    subst (λ z. AreCongruent (2 ^ 64) (pos (negative_of b)) z) zero_less (congruent-difference_of 0 b below (congruent_refl (2 ^ 64) (pos 0)) h)

-- a cell that is narrowed to an int
pub narrowed-int : (a : ℕ) {z : ℤ} → AreCongruent (2 ^ 64) (pos a) z → narrowed S32 a ≡ cell_of (converted Int z)
narrowed-int a h = ap cell_of (converted-congruent Int (congruent_narrow 64 32 (lit≤ tt) h))

-- ---- a cell with its sign

pub int_is_long : (v : ℤ) → IsInRange Int v → IsInRange LongLong v
int_is_long v h = record {
  at_least = at_most_in (least LongLong) v (omega (arith, le_out (least Int) v h.at_least));
  at_most = at_most_in v (greatest LongLong) (omega (arith, le_out v (greatest Int) h.at_most));
}

pub signed-cell : (v : ℤ) → IsInRange Int v → signed (cell_of v) ≡ v
signed-cell v h = converted-value LongLong v (int_is_long v h)

pub cell_below : (z : ℤ) → cell_of z < 2 ^ 64
cell_below z = modulo_below z (2 ^ 64) (pow_pos 64)

-- the cell of a truth value
pub cell_of-truth : (b : Bool) → cell_of (truth_value b) ≡ truth b
cell_of-truth true = refl
cell_of-truth false = refl
