-- Straight-line operators, which neither ask the world nor jump: what they make of the stack.
use Rattle.std.specs.Prelude.{ℕ, ◌+◌, ◌-◌, ◌≤◌, Bool, true, false, IsTrue, List, [], ◌∷◌, Option, Some, None, nat_eq, if◌then◌else◌, slice_get, bit_and, bit_or, bit_xor}
use Rattle.css_vm.specs.declared.code.Op.{Op}
use Rattle.css_vm.specs.declared.code.Op.TheVariants as ops
use Rattle.css_vm.specs.Cells.{cell_of, sum_of, difference_of, product_of, negative_of, complement_of, quotient_of, remainder_of, shifted_left, shifted_right, are_equal, differ, is_below, narrowed}
use Rattle.css_vm.specs.Code.{Code}
use Rattle.css_vm.specs.Soundness.{takes, gives, needs}

-- goes on from what there is
abbrev pub and_then : {A B : Type 0} → Option A → (A → Option B) → Option B
and_then None go = None
and_then (Some a) go = go a

-- with the topmost cell and those below it, if it is there
abbrev pub with_one : List ℕ → (ℕ → List ℕ → Option (List ℕ)) → Option (List ℕ)
with_one [] go = None
with_one (a ∷ rest) go = go a rest

-- with the two topmost cells, the top last, and those below them
abbrev pub with_two : List ℕ → (ℕ → ℕ → List ℕ → Option (List ℕ)) → Option (List ℕ)
with_two [] go = None
with_two (b ∷ []) go = None
with_two (b ∷ a ∷ rest) go = go a b rest

-- one cell for one
abbrev pub one_for : (ℕ → ℕ) → List ℕ → Option (List ℕ)
one_for g stack = with_one stack (λ a rest. Some (g a ∷ rest))

-- one cell for two
abbrev pub two_for : (ℕ → ℕ → ℕ) → List ℕ → Option (List ℕ)
two_for g stack = with_two stack (λ a b rest. Some (g a b ∷ rest))

-- one cell for two, of which the second isn't 0
abbrev pub divided : (ℕ → ℕ → ℕ) → List ℕ → Option (List ℕ)
divided g stack = with_two stack (λ a b rest. if nat_eq b 0 then None else Some (g a b ∷ rest))

-- the stack that an operator leaves: none where it isn't straight, lacks a cell or divides by 0
abbrev pub left_by : Op → List ℕ → Option (List ℕ)
left_by (ops.Push v) stack = Some (cell_of v ∷ stack)
left_by ops.Drop stack = with_one stack (λ a rest. Some rest)
left_by (ops.Dup n) stack = and_then (slice_get stack n) (λ a. Some (a ∷ stack))
left_by ops.Swap stack = with_two stack (λ a b rest. Some (a ∷ b ∷ rest))
left_by ops.Add stack = two_for sum_of stack
left_by ops.Sub stack = two_for difference_of stack
left_by ops.Mul stack = two_for product_of stack
left_by ops.And stack = two_for bit_and stack
left_by ops.Or stack = two_for bit_or stack
left_by ops.Xor stack = two_for bit_xor stack
left_by ops.Neg stack = one_for negative_of stack
left_by ops.Not stack = one_for complement_of stack
left_by ops.Divs stack = divided quotient_of stack
left_by ops.Rems stack = divided remainder_of stack
left_by (ops.Shl n) stack = two_for (shifted_left n) stack
left_by (ops.Shrs n) stack = two_for (shifted_right n) stack
left_by ops.Eq stack = two_for are_equal stack
left_by ops.Ne stack = two_for differ stack
left_by ops.Lts stack = two_for is_below stack
left_by (ops.Conv t) stack = one_for (narrowed t) stack
left_by _ stack = None

-- the stack that operators leave, one after the other
abbrev pub applied : List Op → List ℕ → Option (List ℕ)
applied [] stack = Some stack
applied (op ∷ all) stack = and_then (left_by op stack) (applied all)

-- neither asks the world nor jumps, and knows no frame
abbrev pub is_straight : Op → Bool
is_straight (ops.Frame k) = false
is_straight ops.Load32u = false
is_straight ops.Load32s = false
is_straight ops.Store32 = false
is_straight (ops.Jump to) = false
is_straight (ops.Jumpz to) = false
is_straight (ops.Call k) = false
is_straight (ops.Submit k) = false
is_straight (ops.Mark kind) = false
is_straight ops.Turn = false
is_straight (ops.Out c) = false
is_straight ops.Ret = false
is_straight _ = true

-- each operator is straight, and finds its cells on a stack that had this height at first
abbrev pub FindCells : Code → ℕ → List Op → Type 0
FindCells code height [] = Unit {0}
FindCells code height (op ∷ all) = IsTrue (is_straight op) × (needs code op ≤ height) × FindCells code (height - takes code op + gives code op) all
