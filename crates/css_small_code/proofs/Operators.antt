-- An operator's code makes of the cells of its operands the cell of its value.
use Rattle.std.proofs.Common.{◌≡◌, ℕ, ◌+◌, ℤ, pos, Bool, true, false, List, [], ◌∷◌, Option, Some, None, nat_eq, int_eq, if◌then◌else◌, refl, ap, ◌∙◌, arith}
use Rattle.css_base.specs.declared.int_type.IntType.TheVariants.{Int}
use Rattle.css_num.specs.declared.operators.UnOp.{UnOp}
use Rattle.css_num.specs.declared.operators.UnOp.TheVariants as unary
use Rattle.css_num.specs.declared.operators.BinOp.{BinOp}
use Rattle.css_num.specs.declared.operators.BinOp.TheVariants as binary
use Rattle.css_num.specs.Types.{IsInRange}
use Rattle.css_num.specs.Operators.{truth_value, unary_value, binary_value, unless_zero, quotient, remainder}
use Rattle.css_vm.specs.Code.{Code}
use Rattle.css_vm.specs.Cells.{cell_of, quotient_of, remainder_of}
use Rattle.css_small_code.specs.Code.{as_int, truth_code, unary_code, binary_code}
use Rattle.css_small_code.specs.Meaning.{is_true}
use Rattle.css_small_code.proofs.CellsArithmetic.{cell_of-sum, cell_of-difference, cell_of-product, cell_of-negative, cell_of-complement, cell_of-shifted_left, cell_of-shifted_right, cell_of-quotient, cell_of-remainder}
use Rattle.css_small_code.proofs.CellsBits.{cell_of-and, cell_of-or, cell_of-xor}
use Rattle.css_small_code.proofs.CellsTests.{cell_of-equal, cell_of-differ, cell_of-below, cell_of-at_most, cell_of-zero_test, cell_of-truth_test, zero_test}
use Rattle.css_small_code.proofs.Straight.{and_then, applied, FindCells}

-- a cell on top, as another
on_top : (rest : List ℕ) {a b : ℕ} → a ≡ b → Some (a ∷ rest) ≡ Some (b ∷ rest)
on_top rest e = ap (λ c. Some (c ∷ rest)) e

pub unary_cells : (op : UnOp) (v : ℤ) (rest : List ℕ) → IsInRange Int v → applied (unary_code op) (cell_of v ∷ rest) ≡ Some (cell_of (unary_value op Int v) ∷ rest)
unary_cells unary.Plus v rest range = refl
unary_cells unary.Minus v rest range = on_top rest (cell_of-negative v)
unary_cells unary.Complement v rest range = on_top rest (cell_of-complement v range)
unary_cells unary.Not v rest range = on_top rest (cell_of-zero_test v range)

-- the test whether a value isn't 0
pub truth_cells : (v : ℤ) (rest : List ℕ) → IsInRange Int v → applied truth_code (cell_of v ∷ rest) ≡ Some (cell_of (truth_value (is_true v)) ∷ rest)
truth_cells v rest range = on_top rest (cell_of-truth_test v range)

-- the value that there is
known : {u z : ℤ} → Some u ≡ Some z → u ≡ z
known e = cc

-- by a divisor whose cell is 0 exactly where it is
divided_cells : (zero : Bool) (go : List ℕ → Option (List ℕ)) (rest : List ℕ) (c : ℕ) (u z : ℤ) → (if zero then None else Some u) ≡ Some z → go (c ∷ rest) ≡ Some (cell_of u ∷ rest) → and_then (if zero then None else Some (c ∷ rest)) go ≡ Some (cell_of z ∷ rest)
divided_cells true go rest c u z gives does = cc
divided_cells false go rest c u z gives does = does ∙ on_top rest (ap cell_of (known gives))

division_cells : (go : List ℕ → Option (List ℕ)) (rest : List ℕ) (c : ℕ) (y u z : ℤ) → IsInRange Int y → unless_zero y u ≡ Some z → go (c ∷ rest) ≡ Some (cell_of u ∷ rest) → and_then (if nat_eq (cell_of y) 0 then None else Some (c ∷ rest)) go ≡ Some (cell_of z ∷ rest)
division_cells go rest c y u z second gives does =
    ap (λ zero. and_then (if zero then None else Some (c ∷ rest)) go) (zero_test y second) ∙ divided_cells (int_eq y (pos 0)) go rest c u z gives does

pub binary_cells : (op : BinOp) (x y z : ℤ) (rest : List ℕ) → IsInRange Int x → IsInRange Int y → binary_value op Int x y ≡ Some z → applied (binary_code op) (cell_of y ∷ cell_of x ∷ rest) ≡ Some (cell_of z ∷ rest)
binary_cells binary.Mul x y z rest first second gives = on_top rest (cell_of-product x y ∙ ap cell_of (known gives))
binary_cells binary.Div x y z rest first second gives =
    division_cells (applied (as_int ∷ [])) rest (quotient_of (cell_of x) (cell_of y)) y (quotient Int x y) z second gives (on_top rest (cell_of-quotient x y first second))
binary_cells binary.Rem x y z rest first second gives =
    division_cells (applied []) rest (remainder_of (cell_of x) (cell_of y)) y (remainder Int x y) z second gives (on_top rest (cell_of-remainder x y first second))
binary_cells binary.Add x y z rest first second gives = on_top rest (cell_of-sum x y ∙ ap cell_of (known gives))
binary_cells binary.Sub x y z rest first second gives = on_top rest (cell_of-difference x y ∙ ap cell_of (known gives))
binary_cells binary.Shl x y z rest first second gives = on_top rest (cell_of-shifted_left x y ∙ ap cell_of (known gives))
binary_cells binary.Shr x y z rest first second gives = on_top rest (cell_of-shifted_right x y first ∙ ap cell_of (known gives))
binary_cells binary.Lt x y z rest first second gives = on_top rest (cell_of-below x y first second ∙ ap cell_of (known gives))
binary_cells binary.Gt x y z rest first second gives = on_top rest (cell_of-below y x second first ∙ ap cell_of (known gives))
binary_cells binary.Le x y z rest first second gives = on_top rest (cell_of-at_most x y first second ∙ ap cell_of (known gives))
binary_cells binary.Ge x y z rest first second gives = on_top rest (cell_of-at_most y x second first ∙ ap cell_of (known gives))
binary_cells binary.Eq x y z rest first second gives = on_top rest (cell_of-equal x y first second ∙ ap cell_of (known gives))
binary_cells binary.Ne x y z rest first second gives = on_top rest (cell_of-differ x y first second ∙ ap cell_of (known gives))
binary_cells binary.And x y z rest first second gives = on_top rest (cell_of-and x y first second ∙ ap cell_of (known gives))
binary_cells binary.Xor x y z rest first second gives = on_top rest (cell_of-xor x y first second ∙ ap cell_of (known gives))
binary_cells binary.Or x y z rest first second gives = on_top rest (cell_of-or x y first second ∙ ap cell_of (known gives))

-- by a divisor that is 0
divided_by_zero : (zero : Bool) (go : List ℕ → Option (List ℕ)) (stack : List ℕ) (u : ℤ) → (if zero then None else Some u) ≡ None → and_then (if zero then None else Some stack) go ≡ None
divided_by_zero true go stack u none = refl
divided_by_zero false go stack u none = cc

division_faults : (go : List ℕ → Option (List ℕ)) (stack : List ℕ) (y u : ℤ) → IsInRange Int y → unless_zero y u ≡ None → and_then (if nat_eq (cell_of y) 0 then None else Some stack) go ≡ None
division_faults go stack y u second none =
    ap (λ zero. and_then (if zero then None else Some stack) go) (zero_test y second) ∙ divided_by_zero (int_eq y (pos 0)) go stack u none

pub binary_faults : (op : BinOp) (x y : ℤ) (rest : List ℕ) → IsInRange Int x → IsInRange Int y → binary_value op Int x y ≡ None → applied (binary_code op) (cell_of y ∷ cell_of x ∷ rest) ≡ None
binary_faults binary.Div x y rest first second none =
    division_faults (applied (as_int ∷ [])) (quotient_of (cell_of x) (cell_of y) ∷ rest) y (quotient Int x y) second none
binary_faults binary.Rem x y rest first second none =
    division_faults (applied []) (remainder_of (cell_of x) (cell_of y) ∷ rest) y (remainder Int x y) second none
binary_faults _ x y rest first second none = cc

-- the code finds its operands
pub binary_finds : (code : Code) (op : BinOp) (height : ℕ) → FindCells code (height + 2) (binary_code op)
binary_finds code binary.Lt height = (refl, omega arith, tt)
binary_finds code binary.Rem height = (refl, omega arith, tt)
binary_finds code binary.Shr height = (refl, omega arith, tt)
binary_finds code binary.Eq height = (refl, omega arith, tt)
binary_finds code binary.Ne height = (refl, omega arith, tt)
binary_finds code binary.And height = (refl, omega arith, tt)
binary_finds code binary.Xor height = (refl, omega arith, tt)
binary_finds code binary.Or height = (refl, omega arith, tt)
binary_finds code binary.Le height = (refl, omega arith, (refl, omega arith, (refl, omega arith, (refl, omega arith, tt))))
binary_finds code binary.Ge height = (refl, omega arith, (refl, omega arith, (refl, omega arith, tt)))
binary_finds code _ height = (refl, omega arith, (refl, omega arith, tt))
