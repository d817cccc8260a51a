-- The cells of sums, products, shifts and quotients of ints.
use Rattle.std.proofs.Common.{◌≡◌, ◌+◌, ◌-◌, ◌%◌, ◌^◌, ◌≤◌, ℤ, pos, negsuc, ◌+ℤ◌, ◌-ℤ◌, ◌*ℤ◌, neg_ℤ, int_div, int_rem, refl, sym, ap, ◌∙◌, arith, lit<}
use Rattle.std.proofs.lemmas.Nat.{mod_below, pow_pos}
use borrow.Author.Differences.{up, down, same_in, sum_is_lem, neg_is, at_most_in, le_out}
use Rattle.css_base.specs.declared.int_type.IntType.TheVariants.{Int}
use Rattle.css_num.specs.Types.{least, greatest, IsInRange}
use Rattle.css_num.specs.Conversion.{converted}
use Rattle.css_num.specs.Operators.{floor_quotient, quotient, remainder, count_of}
use Rattle.css_num.specs.Operators as language
use Rattle.css_num.proofs.Congruence.{congruent_refl, congruent_below, modulo-congruent}
use Rattle.css_num.proofs.Ranges.{converted-value, remainder-is}
use Rattle.css_vm.specs.declared.code.Narrow.TheVariants.{S32}
use Rattle.css_vm.specs.declared.code.ShiftWidth.TheVariants.{W32}
use Rattle.css_vm.specs.Cells.{cell_of, signed, sum_of, difference_of, product_of, negative_of, complement_of, quotient_of, remainder_of, shifted_left, shifted_right, narrowed}
use Rattle.css_small_code.proofs.Cells.{congruent-cell, congruent-sum_of, congruent-difference_of, congruent-product_of, congruent-negative_of, narrowed-int, signed-cell, cell_below}

-- ---- what is narrowed to an int

pub cell_of-sum : (x y : ℤ) → narrowed S32 (sum_of (cell_of x) (cell_of y)) ≡ cell_of (converted Int (x +ℤ y))
cell_of-sum x y = narrowed-int (sum_of (cell_of x) (cell_of y)) (congruent-sum_of (cell_of x) (cell_of y) (congruent-cell x) (congruent-cell y))

pub cell_of-difference : (x y : ℤ) → narrowed S32 (difference_of (cell_of x) (cell_of y)) ≡ cell_of (converted Int (x -ℤ y))
cell_of-difference x y =
    let below : cell_of y ≤ 2 ^ 64 = omega (arith, cell_below y) in
    narrowed-int (difference_of (cell_of x) (cell_of y)) (congruent-difference_of (cell_of x) (cell_of y) below (congruent-cell x) (congruent-cell y))

pub cell_of-product : (x y : ℤ) → narrowed S32 (product_of (cell_of x) (cell_of y)) ≡ cell_of (converted Int (x *ℤ y))
cell_of-product x y = narrowed-int (product_of (cell_of x) (cell_of y)) (congruent-product_of (cell_of x) (cell_of y) (congruent-cell x) (congruent-cell y))

pub cell_of-negative : (v : ℤ) → narrowed S32 (negative_of (cell_of v)) ≡ cell_of (converted Int (neg_ℤ v))
cell_of-negative v =
    let below : cell_of v ≤ 2 ^ 64 = omega (arith, cell_below v) in
    narrowed-int (negative_of (cell_of v)) (congruent-negative_of (cell_of v) below (congruent-cell v))

-- the count of a shift
pub count-is : (y : ℤ) → cell_of y % 32 ≡ count_of Int y
count-is y = modulo-congruent 32 (lit< tt) (congruent_below (2 ^ 59) 32 refl (congruent-cell y))

pub cell_of-shifted_left : (x y : ℤ) → narrowed S32 (shifted_left W32 (cell_of x) (cell_of y)) ≡ cell_of (language.shifted_left Int x y)
cell_of-shifted_left x y =
    let power = 2 ^ (cell_of y % 32) in
    narrowed-int (product_of (cell_of x) power) (congruent-product_of (cell_of x) power (congruent-cell x) (congruent_refl (2 ^ 64) (pos power)))
    ∙ ap (λ k. cell_of (converted Int (x *ℤ pos (2 ^ k)))) (count-is y)

-- ---- what is an int as it is

pub cell_of-shifted_right : (x y : ℤ) → IsInRange Int x → shifted_right W32 (cell_of x) (cell_of y) ≡ cell_of (language.shifted_right Int x y)
cell_of-shifted_right x y h =
    ap (λ z. cell_of (floor_quotient z (2 ^ (cell_of y % 32)))) (signed-cell x h)
    ∙ ap (λ k. cell_of (floor_quotient x (2 ^ k))) (count-is y)

pub cell_of-quotient : (x y : ℤ) → IsInRange Int x → IsInRange Int y → narrowed S32 (quotient_of (cell_of x) (cell_of y)) ≡ cell_of (quotient Int x y)
cell_of-quotient x y h k =
    ap (λ z. narrowed S32 (cell_of (int_div z (signed (cell_of y))))) (signed-cell x h)
    ∙ ap (λ z. narrowed S32 (cell_of (int_div x z))) (signed-cell y k)
    ∙ narrowed-int (cell_of (int_div x y)) (congruent-cell (int_div x y))

pub cell_of-remainder : (x y : ℤ) → IsInRange Int x → IsInRange Int y → remainder_of (cell_of x) (cell_of y) ≡ cell_of (remainder Int x y)
cell_of-remainder x y h k =
    ap (λ z. cell_of (int_rem z (signed (cell_of y)))) (signed-cell x h)
    ∙ ap (λ z. cell_of (int_rem x z)) (signed-cell y k)
    ∙ ap cell_of (sym (remainder-is Int x y h))

complement_read : (v : ℤ) → complement_of (cell_of v) ≡ cell_of (negsuc 0 -ℤ v)
complement_read (pos a) =
    let less : negsuc 0 -ℤ pos a ≡ negsuc a = same_in (negsuc 0 -ℤ pos a) (negsuc a) (omega (arith, sum_is_lem (negsuc 0) (neg_ℤ (pos a)), neg_is (pos a))) in
    sym (ap cell_of less)
complement_read (negsuc a) =
    let less : negsuc 0 -ℤ negsuc a ≡ pos a = same_in (negsuc 0 -ℤ negsuc a) (pos a) (omega (arith, sum_is_lem (negsuc 0) (neg_ℤ (negsuc a)), neg_is (negsuc a))) in
    let below = mod_below a (2 ^ 64) (pow_pos 64) in
    let twice : 2 ^ 64 - 1 - (2 ^ 64 - 1 - a % 2 ^ 64) ≡ a % 2 ^ 64 = omega arith in
    twice ∙ sym (ap cell_of less)

pub cell_of-complement : (v : ℤ) → IsInRange Int v → complement_of (cell_of v) ≡ cell_of (converted Int (negsuc 0 -ℤ v))
cell_of-complement v h =
    let z : ℤ = negsuc 0 -ℤ v in
    let opposite : up z + up v + 1 ≡ down z + down v = omega (arith, sum_is_lem (negsuc 0) (neg_ℤ v), neg_is v) in
    let in_range : IsInRange Int z = record {
      at_least = at_most_in (least Int) z (omega (arith, le_out v (greatest Int) h.at_most));
      at_most = at_most_in z (greatest Int) (omega (arith, le_out (least Int) v h.at_least));
    } in
    complement_read v ∙ ap cell_of (sym (converted-value Int z in_range))
