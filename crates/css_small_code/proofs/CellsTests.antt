-- The cells of comparisons of ints.
use Rattle.std.proofs.Common.{◌≡◌, ℤ, pos, Bool, true, false, not, nat_eq, int_lt, int_le, int_eq, refl, sym, ap, ◌∙◌, arith}
use Rattle.std.proofs.lemmas.Bool.Decides.{Decides-eqb, Decides-int_eq, Decides-like, same_from_decides}
use Rattle.css_base.specs.declared.int_type.IntType.TheVariants.{Int}
use Rattle.css_num.specs.Types.{IsInRange}
use Rattle.css_num.specs.Operators.{truth_value}
use Rattle.css_vm.specs.Cells.{cell_of, signed, truth, are_equal, differ, is_below}
use Rattle.css_small_code.proofs.Cells.{signed-cell, cell_of-truth}

-- two ints have one cell exactly where they are equal
same_cell : (x y : ℤ) → IsInRange Int x → IsInRange Int y → cell_of x ≡ cell_of y → x ≡ y
same_cell x y h k e = sym (signed-cell x h) ∙ ap signed e ∙ signed-cell y k

same_test : (x y : ℤ) → IsInRange Int x → IsInRange Int y → nat_eq (cell_of x) (cell_of y) ≡ int_eq x y
same_test x y h k =
    same_from_decides (nat_eq (cell_of x) (cell_of y)) (int_eq x y)
    (Decides-like (nat_eq (cell_of x) (cell_of y)) (same_cell x y h k) (ap cell_of) (Decides-eqb (cell_of x) (cell_of y)))
    (Decides-int_eq x y)

pub cell_of-equal : (x y : ℤ) → IsInRange Int x → IsInRange Int y → are_equal (cell_of x) (cell_of y) ≡ cell_of (truth_value (int_eq x y))
cell_of-equal x y h k = ap truth (same_test x y h k) ∙ sym (cell_of-truth (int_eq x y))

pub cell_of-differ : (x y : ℤ) → IsInRange Int x → IsInRange Int y → differ (cell_of x) (cell_of y) ≡ cell_of (truth_value (not (int_eq x y)))
cell_of-differ x y h k = ap (λ b. truth (not b)) (same_test x y h k) ∙ sym (cell_of-truth (not (int_eq x y)))

below_test : (x y : ℤ) → IsInRange Int x → IsInRange Int y → is_below (cell_of x) (cell_of y) ≡ truth (int_lt x y)
below_test x y h k =
    ap (λ z. truth (int_lt z (signed (cell_of y)))) (signed-cell x h)
    ∙ ap (λ z. truth (int_lt x z)) (signed-cell y k)

pub cell_of-below : (x y : ℤ) → IsInRange Int x → IsInRange Int y → is_below (cell_of x) (cell_of y) ≡ cell_of (truth_value (int_lt x y))
cell_of-below x y h k = below_test x y h k ∙ sym (cell_of-truth (int_lt x y))

-- not above is at most
not_above : (x y : ℤ) → not (int_lt y x) ≡ int_le x y
not_above x y = grind arith

-- a test of a truth value for 0 turns it round
turned_round : (b : Bool) → are_equal (truth b) 0 ≡ cell_of (truth_value (not b))
turned_round true = refl
turned_round false = refl

pub cell_of-at_most : (x y : ℤ) → IsInRange Int x → IsInRange Int y → are_equal (is_below (cell_of y) (cell_of x)) 0 ≡ cell_of (truth_value (int_le x y))
cell_of-at_most x y h k =
    ap (λ a. are_equal a 0) (below_test y x k h)
    ∙ turned_round (int_lt y x)
    ∙ ap (λ b. cell_of (truth_value b)) (not_above x y)

zero_in_range : IsInRange Int (pos 0)
zero_in_range = record { at_least = record { le = tt }; at_most = record { le = tt } }

pub cell_of-zero_test : (v : ℤ) → IsInRange Int v → are_equal (cell_of v) 0 ≡ cell_of (truth_value (int_eq v (pos 0)))
cell_of-zero_test v h = cell_of-equal v (pos 0) h zero_in_range

pub cell_of-truth_test : (v : ℤ) → IsInRange Int v → differ (cell_of v) 0 ≡ cell_of (truth_value (not (int_eq v (pos 0))))
cell_of-truth_test v h = cell_of-differ v (pos 0) h zero_in_range

-- a cell is 0 exactly where its int is
pub zero_test : (v : ℤ) → IsInRange Int v → nat_eq (cell_of v) 0 ≡ int_eq v (pos 0)
zero_test v h = same_test v (pos 0) h zero_in_range
