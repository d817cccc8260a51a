-- The jumps of an expression's code lead ahead, and no further than right behind it.
use Rattle.std.proofs.Common.{◌≡◌, ℕ, ◌+◌, ◌<◌, ◌≤◌, pos, List, [], ◌∷◌, ◌++◌, length, subst, arith, length-append}
use Rattle.css_num.specs.declared.operators.UnOp.{UnOp}
use Rattle.css_num.specs.declared.operators.UnOp.TheVariants as unary
use Rattle.css_num.specs.declared.operators.BinOp.{BinOp}
use Rattle.css_num.specs.declared.operators.BinOp.TheVariants as binary
use Rattle.css_vm.specs.declared.code.Op.{Op}
use Rattle.css_vm.specs.declared.code.Op.TheVariants as ops
use Rattle.css_small.specs.Tree.{Expression, Number, Variable, Element, Unary, Binary, And, Or}
use Rattle.css_small_code.specs.Code.{truth_code, unary_code, binary_code, index_code, pointer_code, expression_code, element_code}

-- a jump leads ahead, and no further than the end
abbrev pub Ahead : ℕ → ℕ → Op → Type 0
Ahead end place (ops.Jump to) = (place < to) × (to ≤ end)
Ahead end place (ops.Jumpz to) = (place < to) × (to ≤ end)
Ahead end place _ = Unit {0}

-- each jump of operators at a place does
abbrev pub Inside : ℕ → ℕ → List Op → Type 0
Inside end place [] = Unit {0}
Inside end place (op ∷ all) = Ahead end place op × Inside end (place + 1) all

pub both_inside : (end place : ℕ) (xs ys : List Op) → Inside end place xs → Inside end (place + length xs) ys → Inside end place (xs ++ ys)
both_inside end place [] ys a b = let here : place + 0 ≡ place = omega arith in subst (λ p. Inside end p ys) here b
both_inside end place (x ∷ xs) ys a b =
    let there : place + length (x ∷ xs) ≡ place + 1 + length xs = omega arith in
    (a.0, both_inside end (place + 1) xs ys a.1 (subst (λ p. Inside end p ys) there b))

unary_inside : (op : UnOp) (end place : ℕ) → Inside end place (unary_code op)
unary_inside unary.Plus end place = tt
unary_inside unary.Minus end place = (tt, (tt, tt))
unary_inside unary.Complement end place = (tt, tt)
unary_inside unary.Not end place = (tt, (tt, tt))

binary_inside : (op : BinOp) (end place : ℕ) → Inside end place (binary_code op)
binary_inside binary.Lt end place = (tt, tt)
binary_inside binary.Rem end place = (tt, tt)
binary_inside binary.Shr end place = (tt, tt)
binary_inside binary.Eq end place = (tt, tt)
binary_inside binary.Ne end place = (tt, tt)
binary_inside binary.And end place = (tt, tt)
binary_inside binary.Xor end place = (tt, tt)
binary_inside binary.Or end place = (tt, tt)
binary_inside binary.Le end place = (tt, (tt, (tt, (tt, tt))))
binary_inside binary.Ge end place = (tt, (tt, (tt, tt)))
binary_inside _ end place = (tt, (tt, tt))

-- the address of an element, whose index's code is inside
place_inside : (e : Expression) (end place : ℕ) → Inside end (place + 2) (expression_code e (place + 2)) → Inside end place (element_code e place)
place_inside e end place inner =
    let first = pointer_code ++ expression_code e (place + 2) in
    let next : place + 2 ≡ place + 1 + 1 = omega arith in
    both_inside end place first index_code (tt, (tt, subst (λ p. Inside end p (expression_code e (place + 2))) next inner)) (tt, (tt, (tt, tt)))

-- an expression's code, before an end
pub expression_inside : (e : Expression) (end place : ℕ) → place + length (expression_code e place) ≤ end → Inside end place (expression_code e place)
expression_inside (Number value) end place le = (tt, tt)
expression_inside (Variable k) end place le = (tt, (tt, tt))
expression_inside (Element e) end place le =
    let ce = expression_code e (place + 2) in
    let last = ops.Load32s ∷ [] in
    let one = length-append (element_code e place) last in
    let two = length-append (pointer_code ++ ce) index_code in
    both_inside end place (element_code e place) last (place_inside e end place (expression_inside e end (place + 2) (omega (arith, le, one, two)))) (tt, tt)
expression_inside (Unary op e) end place le =
    let ce = expression_code e place in
    both_inside end place ce (unary_code op) (expression_inside e end place (omega (arith, le, length-append ce (unary_code op)))) (unary_inside op end (place + length ce))
expression_inside (Binary op a b) end place le =
    let ca = expression_code a place in
    let mid = place + length ca in
    let cb = expression_code b mid in
    let one = length-append (ca ++ cb) (binary_code op) in
    let two = length-append ca cb in
    both_inside end place (ca ++ cb) (binary_code op)
    (both_inside end place ca cb (expression_inside a end place (omega (arith, le, one, two))) (expression_inside b end mid (omega (arith, le, one, two))))
    (binary_inside op end (place + length (ca ++ cb)))
expression_inside (And a b) end place le =
    let ca = expression_code a place in
    let mid = place + length ca in
    let cb = expression_code b (mid + 1) in
    let no = mid + 1 + length cb + 3 in
    let jumped = ops.Jumpz no ∷ cb in
    let last = ops.Jump (no + 1) ∷ ops.Push (pos 0) ∷ [] in
    let one = length-append (ca ++ jumped ++ truth_code) last in
    let two = length-append (ca ++ jumped) truth_code in
    let three = length-append ca jumped in
    both_inside end place (ca ++ jumped ++ truth_code) last
    (both_inside end place (ca ++ jumped) truth_code
    (both_inside end place ca jumped (expression_inside a end place (omega (arith, le, one, two, three)))
    ((omega arith, omega (arith, le, one, two, three)), expression_inside b end (mid + 1) (omega (arith, le, one, two, three))))
    (tt, (tt, tt)))
    ((omega (arith, two, three), omega (arith, le, one, two, three)), (tt, tt))
expression_inside (Or a b) end place le =
    let ca = expression_code a place in
    let mid = place + length ca in
    let other = mid + 3 in
    let cb = expression_code b other in
    let out = other + length cb + 2 in
    let jumps = ops.Jumpz other ∷ ops.Push (pos 1) ∷ ops.Jump out ∷ cb in
    let one = length-append (ca ++ jumps) truth_code in
    let two = length-append ca jumps in
    let place_second : other ≡ mid + 1 + 1 + 1 = omega arith in
    let second = expression_inside b end other (omega (arith, le, one, two)) in
    both_inside end place (ca ++ jumps) truth_code
    (both_inside end place ca jumps (expression_inside a end place (omega (arith, le, one, two)))
    ((omega arith, omega (arith, le, one, two)), (tt, ((omega arith, omega (arith, le, one, two)), subst (λ p. Inside end p cb) place_second second))))
    (tt, (tt, tt))

pub element_inside : (e : Expression) (end place : ℕ) → place + length (element_code e place) ≤ end → Inside end place (element_code e place)
element_inside e end place le =
    let ce = expression_code e (place + 2) in
    place_inside e end place (expression_inside e end (place + 2) (omega (arith, le, length-append (pointer_code ++ ce) index_code)))
