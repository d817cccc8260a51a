-- The code of a function besides main makes no events and calls nothing.
use Rattle.std.proofs.Common.{◌≡◌, ℕ, ◌+◌, ◌≤◌, List, [], ◌∷◌, ◌++◌, length, arith}
use Rattle.std.specs.List.{AllByRecursion}
use Rattle.css_num.specs.declared.operators.UnOp.{UnOp}
use Rattle.css_num.specs.declared.operators.UnOp.TheVariants as unary
use Rattle.css_num.specs.declared.operators.BinOp.{BinOp}
use Rattle.css_num.specs.declared.operators.BinOp.TheVariants as binary
use Rattle.css_vm.specs.declared.code.Instr.{Instr}
use Rattle.css_vm.specs.declared.code.Op.{Op}
use Rattle.css_vm.specs.declared.code.Op.TheVariants as ops
use Rattle.css_small.specs.Tree.{Expression, Number, Variable, Element, Unary, Binary, And, Or, Statement, Declare, Initialise, Empty, Assign, AssignElement, Call, Mark, Put, Return, Block, If, IfElse, While, Statements, End, More, Function}
use Rattle.css_small.specs.Numbers.{Scope, AreWithin, AllWithin}
use Rattle.css_small_code.specs.Code.{in_line, truth_code, unary_code, binary_code, index_code, pointer_code, expression_code, assignment_code, element_code, element_assignment_code, statement_code, statements_code}

-- neither a call nor an event
abbrev pub IsInner : Op → Type 0
IsInner (ops.Call k) = ⊥
IsInner (ops.Submit k) = ⊥
IsInner (ops.Mark kind) = ⊥
IsInner (ops.Out c) = ⊥
IsInner op = Unit {0}

abbrev pub AreInner : List Op → Type 0
AreInner all = AllByRecursion IsInner all

abbrev pub IsInnerCode : List Instr → Type 0
IsInnerCode code = AllByRecursion (λ i. IsInner i.op) code

both_inner : (xs ys : List Op) → AreInner xs → AreInner ys → AreInner (xs ++ ys)
both_inner [] ys a b = b
both_inner (x ∷ xs) ys a b = (a.0, both_inner xs ys a.1 b)

pub parts_inner : (xs ys : List Instr) → IsInnerCode xs → IsInnerCode ys → IsInnerCode (xs ++ ys)
parts_inner [] ys a b = b
parts_inner (x ∷ xs) ys a b = (a.0, parts_inner xs ys a.1 b)

line_inner : (line : ℕ) (all : List Op) → AreInner all → IsInnerCode (in_line line all)
line_inner line [] h = tt
line_inner line (op ∷ all) h = (h.0, line_inner line all h.1)

unary_inner : (op : UnOp) → AreInner (unary_code op)
unary_inner unary.Plus = tt
unary_inner unary.Minus = (tt, (tt, tt))
unary_inner unary.Complement = (tt, tt)
unary_inner unary.Not = (tt, (tt, tt))

binary_inner : (op : BinOp) → AreInner (binary_code op)
binary_inner binary.Lt = (tt, tt)
binary_inner binary.Rem = (tt, tt)
binary_inner binary.Shr = (tt, tt)
binary_inner binary.Eq = (tt, tt)
binary_inner binary.Ne = (tt, tt)
binary_inner binary.And = (tt, tt)
binary_inner binary.Xor = (tt, tt)
binary_inner binary.Or = (tt, tt)
binary_inner binary.Le = (tt, (tt, (tt, (tt, tt))))
binary_inner binary.Ge = (tt, (tt, (tt, tt)))
binary_inner _ = (tt, (tt, tt))

-- the address of an element
place_inner : (e : Expression) (at : ℕ) → AreInner (expression_code e (at + 2)) → AreInner (element_code e at)
place_inner e at inner = both_inner (pointer_code ++ expression_code e (at + 2)) index_code (tt, (tt, inner)) (tt, (tt, (tt, tt)))

expression_inner : (e : Expression) (at : ℕ) → AreInner (expression_code e at)
expression_inner (Number value) at = (tt, tt)
expression_inner (Variable k) at = (tt, (tt, tt))
expression_inner (Element e) at = both_inner (element_code e at) (ops.Load32s ∷ []) (place_inner e at (expression_inner e (at + 2))) (tt, tt)
expression_inner (Unary op e) at = both_inner (expression_code e at) (unary_code op) (expression_inner e at) (unary_inner op)
expression_inner (Binary op a b) at =
    let ca = expression_code a at in
    let cb = expression_code b (at + length ca) in
    both_inner (ca ++ cb) (binary_code op) (both_inner ca cb (expression_inner a at) (expression_inner b (at + length ca))) (binary_inner op)
expression_inner (And a b) at =
    let ca = expression_code a at in
    let cb = expression_code b (at + length ca + 1) in
    let no = at + length ca + 1 + length cb + 3 in
    let jumped = ops.Jumpz no ∷ cb in
    both_inner (ca ++ jumped ++ truth_code) (ops.Jump (no + 1) ∷ ops.Push _ ∷ [])
    (both_inner (ca ++ jumped) truth_code (both_inner ca jumped (expression_inner a at) (tt, expression_inner b (at + length ca + 1))) (tt, (tt, tt))) (tt, (tt, tt))
expression_inner (Or a b) at =
    let ca = expression_code a at in
    let other = at + length ca + 3 in
    let cb = expression_code b other in
    let jumps = ops.Jumpz other ∷ ops.Push _ ∷ ops.Jump (other + length cb + 2) ∷ cb in
    both_inner (ca ++ jumps) truth_code (both_inner ca jumps (expression_inner a at) (tt, (tt, (tt, expression_inner b other)))) (tt, (tt, tt))

element_inner : (e : Expression) (at : ℕ) → AreInner (element_code e at)
element_inner e at = place_inner e at (expression_inner e (at + 2))

-- a condition and operators behind it, or a value
ended_inner : (e : Expression) (at : ℕ) (last : List Op) → AreInner last → AreInner (expression_code e at ++ last)
ended_inner e at last h = both_inner (expression_code e at) last (expression_inner e at) h

module _ (functions : List Function) (scope : Scope) (one : 1 ≤ scope.parameters) (none : scope.functions ≡ 0) where
  mutual
    statement_inner : (s : Statement) → AreWithin scope s → (at : ℕ) → IsInnerCode (statement_code functions s at)
    statement_inner (Declare line k) within at = tt
    statement_inner (Initialise line k e) within at = line_inner line (assignment_code k e at) (tt, ended_inner e (at + 1) (ops.Store32 ∷ ops.Drop ∷ []) (tt, (tt, tt)))
    statement_inner (Empty line) within at = tt
    statement_inner (Assign line k e) within at = line_inner line (assignment_code k e at) (tt, ended_inner e (at + 1) (ops.Store32 ∷ ops.Drop ∷ []) (tt, (tt, tt)))
    statement_inner (AssignElement line i e) within at =
        let place = element_code i at in
        let ce = expression_code e (at + length place) in
        line_inner line (element_assignment_code i e at) (both_inner (place ++ ce) (ops.Store32 ∷ ops.Drop ∷ []) (both_inner place ce (element_inner i at) (expression_inner e (at + length place))) (tt, (tt, tt)))
    statement_inner (Call line f k) within at = absurd (omega (arith, within.0, none))
    statement_inner (Mark line kind) within at = absurd (omega (arith, within, one))
    statement_inner (Put line e) within at = absurd (omega (arith, within.0, one))
    statement_inner (Return line e) within at = absurd (omega (arith, within.0, one))
    statement_inner (Block line all) within at = statements_inner all within at
    statement_inner (If line e s) within at =
        let ce = expression_code e at in
        let first = at + length ce + 1 in
        let cs = statement_code functions s first in
        let last = ops.Jumpz (first + length cs) ∷ [] in
        parts_inner (in_line line (ce ++ last)) cs (line_inner line (ce ++ last) (ended_inner e at last (tt, tt))) (statement_inner s within.1 first)
    statement_inner (IfElse line e s other) within at =
        let ce = expression_code e at in
        let first = at + length ce + 1 in
        let cs = statement_code functions s first in
        let second = first + length cs + 1 in
        let co = statement_code functions other second in
        let last = ops.Jumpz second ∷ [] in
        let head = in_line line (ce ++ last) in
        let over = in_line line (ops.Jump (second + length co) ∷ []) in
        parts_inner (head ++ cs ++ over) co
        (parts_inner (head ++ cs) over (parts_inner head cs (line_inner line (ce ++ last) (ended_inner e at last (tt, tt))) (statement_inner s within.1 first)) (tt, tt))
        (statement_inner other within.2 second)
    statement_inner (While line e s) within at =
        let ce = expression_code e at in
        let first = at + length ce + 2 in
        let cs = statement_code functions s first in
        let last = ops.Jumpz (first + length cs + 1) ∷ ops.Turn ∷ [] in
        let head = in_line line (ce ++ last) in
        parts_inner (head ++ cs) (in_line line (ops.Jump at ∷ [])) (parts_inner head cs (line_inner line (ce ++ last) (ended_inner e at last (tt, (tt, tt)))) (statement_inner s within.1 first)) (tt, tt)

    pub statements_inner : (all : Statements) → AllWithin scope all → (at : ℕ) → IsInnerCode (statements_code functions all at)
    statements_inner End within at = tt
    statements_inner (More s rest) within at =
        let first = statement_code functions s at in
        let next = at + length first in
        parts_inner first (statements_code functions rest next) (statement_inner s within.0 at) (statements_inner rest within.1 next)
