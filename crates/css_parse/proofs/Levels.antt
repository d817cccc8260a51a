-- Levels of expressions.
use Rattle.std.proofs.Common.{◌≡◌, ◌↔◌, ℕ, ◌+◌, ◌-◌, ◌<◌, ◌≤◌, max, List, Bool, IsTrue, refl, ap, arith}
use Rattle.css_tree.specs.Syntax.{Expression, Comma, Assign, Conditional, Binary, Cast, PreIncrement, PreDecrement, Unary, SizeofExpression, SizeofType, Index, PostIncrement, PostDecrement, Call, Name, Number, Text, Expressions}
use Rattle.css_tree.specs.Heights.{height, height_of_arguments}

pub some_height : (e : Expression) → 0 < height e
some_height (Comma line a b) = omega arith
some_height (Assign line a op b) = omega arith
some_height (Conditional line a b c) = omega arith
some_height (Binary line a op b) = omega arith
some_height (Cast line type a) = omega arith
some_height (PreIncrement line a) = omega arith
some_height (PreDecrement line a) = omega arith
some_height (Unary line op a) = omega arith
some_height (SizeofExpression line a) = omega arith
some_height (SizeofType line type) = omega arith
some_height (Index line a b) = omega arith
some_height (PostIncrement line a) = omega arith
some_height (PostDecrement line a) = omega arith
some_height (Call line name all) = omega arith
some_height (Name line name) = omega arith
some_height (Number line type value) = omega arith
some_height (Text line bytes) = omega arith

pub low_call : (b : Bool) (e : Expression) (line : ℕ) (name : List ℕ) (all : Expressions) (most : ℕ) → e ≡ Call line name all → 0 < most → (IsTrue b ↔ (height_of_arguments all ≤ most - 1)) → IsTrue b ↔ (height e ≤ most)
low_call b e line name all most is some h =
    let high = ap height is in
    (λ t. (let low = h.0 t in omega arith), λ low. h.1 (omega arith))
