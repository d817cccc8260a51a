-- The code of a program without directives has no marks.
use Rattle.std.proofs.Common.{◌≡◌, ◌&&◌, pos, ℕ, zero, suc, ◌+◌, Bool, true, false, List, [], ◌∷◌, ◌++◌, length, map, All, Option, Some, None, slice_get, nat_eq, if◌then◌else◌, refl, sym, ap, ap₂, ◌∙◌, subst}
use Rattle.std.specs.List.{list_all, AllByRecursion}
use Rattle.std.proofs.lemmas.List.Folds.{list_all-append}
use Rattle.std.proofs.lemmas.List.Elements.{All-from_recursion, recursion_from_All}
use Rattle.css_num.specs.declared.operators.UnOp.{UnOp}
use Rattle.css_num.specs.declared.operators.UnOp.TheVariants as unary
use Rattle.css_num.specs.declared.operators.BinOp.{BinOp}
use Rattle.css_num.specs.declared.operators.BinOp.TheVariants as binary
use Rattle.css_vm.specs.declared.code.Instr.{Instr}
use Rattle.css_vm.specs.declared.code.Op.{Op}
use Rattle.css_vm.specs.declared.code.Op.TheVariants as ops
use Rattle.css_vm.specs.Code.{Routine, first_line}
use Rattle.css_small.specs.Tree.{Expression, Number, Variable, Element, Unary, Binary, And, Or, Statement, Declare, Initialise, Empty, Assign, AssignElement, Call, Mark, Put, Return, Block, If, IfElse, While, Statements, End, More, Function, Program}
use Rattle.css_small_code.specs.Code.{unary_code, binary_code, expression_code, element_code, pointer_code, index_code, truth_code, in_line, is_task_there, call_code, assignment_code, statement_code, statements_code, entry_code, end_code, body_code, function_code, main_code, program_code}
use Rattle.css_small_code.specs.Marks.{IsUnmarked, AreUnmarked, HasNoDirectives, IsNoMark, HasNoMarks}

-- the test for `IsNoMark`
abbrev is_plain : Op → Bool
is_plain (ops.Submit k) = false
is_plain (ops.Mark kind) = false
is_plain op = true

plain_by_test : (op : Op) → is_plain op ≡ true → IsNoMark op
plain_by_test (ops.Submit k) e = cc
plain_by_test (ops.Mark kind) e = cc
plain_by_test (ops.Push v) e = tt
plain_by_test ops.Drop e = tt
plain_by_test (ops.Dup n) e = tt
plain_by_test ops.Swap e = tt
plain_by_test (ops.Frame k) e = tt
plain_by_test ops.Load32u e = tt
plain_by_test ops.Load32s e = tt
plain_by_test ops.Store32 e = tt
plain_by_test ops.Add e = tt
plain_by_test ops.Sub e = tt
plain_by_test ops.Mul e = tt
plain_by_test ops.And e = tt
plain_by_test ops.Or e = tt
plain_by_test ops.Xor e = tt
plain_by_test ops.Neg e = tt
plain_by_test ops.Not e = tt
plain_by_test ops.Divs e = tt
plain_by_test ops.Rems e = tt
plain_by_test (ops.Shl n) e = tt
plain_by_test (ops.Shrs n) e = tt
plain_by_test ops.Eq e = tt
plain_by_test ops.Ne e = tt
plain_by_test ops.Lts e = tt
plain_by_test (ops.Conv n) e = tt
plain_by_test (ops.Jump to) e = tt
plain_by_test (ops.Jumpz to) e = tt
plain_by_test (ops.Call k) e = tt
plain_by_test ops.Turn e = tt
plain_by_test (ops.Out c) e = tt
plain_by_test ops.Ret e = tt

-- all of some operators are
ArePlain : List Op → Type 0
ArePlain all = list_all is_plain all ≡ true

-- and all of some instructions
ArePlainHere : List Instr → Type 0
ArePlainHere all = list_all (λ i. is_plain i.op) all ≡ true

both : (xs ys : List Op) → ArePlain xs → ArePlain ys → ArePlain (xs ++ ys)
unfolding ArePlain
both xs ys a b = rw (list_all-append is_plain xs ys, a, b) refl

both_here : (xs ys : List Instr) → ArePlainHere xs → ArePlainHere ys → ArePlainHere (xs ++ ys)
unfolding ArePlainHere
both_here xs ys a b = rw (list_all-append (λ i. is_plain i.op) xs ys, a, b) refl

line_is : (line : ℕ) (all : List Op) → list_all (λ i. is_plain i.op) (in_line line all) ≡ list_all is_plain all
line_is line [] = refl
line_is line (op ∷ all) = rw (line_is line all) refl

plain_line : (line : ℕ) (all : List Op) → ArePlain all → ArePlainHere (in_line line all)
unfolding ArePlain ArePlainHere
plain_line line all plain = line_is line all ∙ plain

none_plain : ArePlainHere []
unfolding ArePlainHere
none_plain = refl

-- one plain operator and others
then_these : (op : Op) (all : List Op) → is_plain op ≡ true → ArePlain all → ArePlain (op ∷ all)
unfolding ArePlain
then_these op all a b = rw (a, b) refl

nothing_more : ArePlain []
unfolding ArePlain
nothing_more = refl

-- ---- expressions

unary_plain : (op : UnOp) → ArePlain (unary_code op)
unfolding ArePlain
unary_plain unary.Plus = refl
unary_plain unary.Minus = refl
unary_plain unary.Complement = refl
unary_plain unary.Not = refl

binary_plain : (op : BinOp) → ArePlain (binary_code op)
unfolding ArePlain
binary_plain binary.Mul = refl
binary_plain binary.Div = refl
binary_plain binary.Rem = refl
binary_plain binary.Add = refl
binary_plain binary.Sub = refl
binary_plain binary.Shl = refl
binary_plain binary.Shr = refl
binary_plain binary.Lt = refl
binary_plain binary.Gt = refl
binary_plain binary.Le = refl
binary_plain binary.Ge = refl
binary_plain binary.Eq = refl
binary_plain binary.Ne = refl
binary_plain binary.And = refl
binary_plain binary.Xor = refl
binary_plain binary.Or = refl

pointer_plain : ArePlain pointer_code
unfolding ArePlain
pointer_plain = refl

index_plain : ArePlain index_code
unfolding ArePlain
index_plain = refl

truth_plain : ArePlain truth_code
unfolding ArePlain
truth_plain = refl

one_plain : (op : Op) → is_plain op ≡ true → ArePlain (op ∷ [])
one_plain op plain = then_these op [] plain nothing_more

address_plain : (e : Expression) (at : ℕ) → ArePlain (expression_code e (at + 2)) → ArePlain (element_code e at)
address_plain e at plain = both _ _ (both pointer_code _ pointer_plain plain) index_plain

expression_plain : (e : Expression) (at : ℕ) → ArePlain (expression_code e at)
expression_plain (Number value) at = one_plain _ refl
expression_plain (Variable k) at = then_these _ _ refl (one_plain _ refl)
expression_plain (Element e) at = both _ _ (address_plain e at (expression_plain e (at + 2))) (one_plain _ refl)
expression_plain (Unary op e) at = both _ _ (expression_plain e at) (unary_plain op)
expression_plain (Binary op a b) at =
    let ca = expression_code a at in
    both _ _ (both ca _ (expression_plain a at) (expression_plain b (at + length ca))) (binary_plain op)
expression_plain (And a b) at =
    let ca = expression_code a at in
    let second = then_these _ _ refl (expression_plain b (at + length ca + 1)) in
    both _ _ (both _ _ (both ca _ (expression_plain a at) second) truth_plain) (then_these _ _ refl (one_plain _ refl))
expression_plain (Or a b) at =
    let ca = expression_code a at in
    let second = then_these _ _ refl (then_these _ _ refl (then_these _ _ refl (expression_plain b (at + length ca + 3)))) in
    both _ _ (both ca _ (expression_plain a at) second) truth_plain

-- an expression, and then what is plain
then_plain : (e : Expression) (at : ℕ) (rest : List Op) → ArePlain rest → ArePlain (expression_code e at ++ rest)
then_plain e at rest plain = both (expression_code e at) rest (expression_plain e at) plain

element_plain : (e : Expression) (at : ℕ) → ArePlain (element_code e at)
element_plain e at = address_plain e at (expression_plain e (at + 2))

-- ---- statements

assignment_plain : (line k : ℕ) (e : Expression) (at : ℕ) → ArePlainHere (in_line line (assignment_code k e at))
assignment_plain line k e at = plain_line line _ (then_these _ _ refl (then_plain e (at + 1) _ (then_these _ _ refl (one_plain _ refl))))

push_or_none : (b : Bool) (line : ℕ) → ArePlainHere (if b then [] else in_line line (ops.Push (pos 0) ∷ ops.Drop ∷ []))
unfolding ArePlainHere
push_or_none true line = refl
push_or_none false line = refl

end_plain : (line : ℕ) → ArePlainHere (end_code line)
unfolding ArePlainHere
end_plain line = refl

module _ (functions : List Function) (no_tasks : (k : ℕ) → is_task_there (slice_get functions k) ≡ false) where
  call_plain : (f k at line : ℕ) → ArePlainHere (in_line line (call_code (is_task_there (slice_get functions f)) f k at))
  unfolding ArePlainHere
  call_plain f k at line = rw (no_tasks f) refl

  mutual
    statement_plain : (s : Statement) (at : ℕ) → IsUnmarked s → ArePlainHere (statement_code functions s at)
    statement_plain (Declare line k) at h = none_plain
    statement_plain (Initialise line k e) at h = assignment_plain line k e at
    statement_plain (Empty line) at h = none_plain
    statement_plain (Assign line k e) at h = assignment_plain line k e at
    statement_plain (AssignElement line i e) at h =
        plain_line line _ (both _ _ (both _ _ (element_plain i at) (expression_plain e (at + length (element_code i at)))) (then_these _ _ refl (one_plain _ refl)))
    statement_plain (Call line f k) at h = call_plain f k at line
    statement_plain (Mark line kind) at h = absurd h
    statement_plain (Put line e) at h = plain_line line _ (then_plain e at _ (then_these _ _ refl (one_plain _ refl)))
    statement_plain (Return line e) at h = plain_line line _ (then_plain e at _ (one_plain _ refl))
    statement_plain (Block line all) at h = statements_plain all at h
    statement_plain (If line e s) at h =
        let first = at + length (expression_code e at) + 1 in
        both_here _ _ (plain_line line _ (then_plain e at _ (one_plain _ refl))) (statement_plain s first h)
    statement_plain (IfElse line e s other) at h =
        let first = at + length (expression_code e at) + 1 in
        let cs = statement_code functions s first in
        let second = first + length cs + 1 in
        both_here _ _ (both_here _ _ (both_here _ cs (plain_line line _ (then_plain e at _ (one_plain _ refl))) (statement_plain s first h.0)) (plain_line line _ (one_plain _ refl)))
        (statement_plain other second h.1)
    statement_plain (While line e s) at h =
        let first = at + length (expression_code e at) + 2 in
        both_here _ _ (both_here _ _ (plain_line line _ (then_plain e at _ (then_these _ _ refl (one_plain _ refl)))) (statement_plain s first h)) (plain_line line _ (one_plain _ refl))

    statements_plain : (all : Statements) (at : ℕ) → AreUnmarked all → ArePlainHere (statements_code functions all at)
    statements_plain End at h = none_plain
    statements_plain (More s rest) at h =
        let first = statement_code functions s at in
        both_here first _ (statement_plain s at h.0) (statements_plain rest (at + length first) h.1)

  entry_plain : (f : Function) → ArePlainHere (entry_code functions f)
  entry_plain f = push_or_none (nat_eq (first_line (statements_code functions f.body 0 ++ end_code f.end)) f.line) f.line

  body_plain : (f : Function) (entry : List Instr) → ArePlainHere entry → AreUnmarked f.body → ArePlainHere (body_code functions f entry)
  body_plain f entry plain h = both_here _ _ (both_here entry _ plain (statements_plain f.body (length entry) h)) (end_plain f.end)

-- ---- the program

and_parts : (a b : Bool) → (a && b) ≡ true → (a ≡ true) × (b ≡ true)
and_parts true b h = (refl, h)
and_parts false b h = cc

tested : (all : List Instr) → ArePlainHere all → AllByRecursion (λ i. IsNoMark i.op) all
unfolding ArePlainHere
tested [] h = tt
tested (i ∷ all) h =
    let parts = and_parts (is_plain i.op) (list_all (λ i. is_plain i.op) all) h in
    (plain_by_test i.op parts.0, tested all parts.1)

abbrev Meets : Function → Type 0
Meets f = (f.is_task ≡ false) × AreUnmarked f.body

none_there : (functions : List Function) → AllByRecursion Meets functions → (k : ℕ) → is_task_there (slice_get functions k) ≡ false
none_there [] h k = refl
none_there (f ∷ functions) h zero = h.0.0
none_there (f ∷ functions) h (suc k) = none_there functions h.1 k

abbrev IsMarkless : Routine → Type 0
IsMarkless f = All (λ i. IsNoMark i.op) f.body

functions_plain : (functions : List Function) → AllByRecursion Meets functions → (last : Routine) → IsMarkless last → AllByRecursion IsMarkless (map function_code functions ++ last ∷ [])
unfolding ArePlainHere
functions_plain [] h last plain = (plain, tt)
functions_plain (f ∷ functions) h last plain =
    (All-from_recursion (λ i. IsNoMark i.op) _ (tested _ (body_plain [] (λ k. refl) f [] refl h.0.1)), functions_plain functions h.1 last plain)

-- the code of a program without directives has no marks
pub no_marks : (p : Program) → HasNoDirectives p → HasNoMarks (program_code p)
no_marks p h =
    let by_recursion = recursion_from_All Meets p.functions h.functions in
    let none = none_there p.functions by_recursion in
    let main = body_plain p.functions none p.main (entry_code p.functions p.main) (entry_plain p.functions none p.main) h.main in
    All-from_recursion IsMarkless _
    (functions_plain p.functions by_recursion (main_code p.functions p.main) (All-from_recursion (λ i. IsNoMark i.op) _ (tested _ main)))
