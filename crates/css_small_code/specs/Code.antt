-- The instructions of a program. Jumps name places of the whole body, so each piece's code depends on its place.
use Rattle.std.specs.Prelude.{ℕ, ◌+◌, pos, Bool, true, false, List, [], ◌∷◌, ◌++◌, map, length, nat_eq, Option, Some, None, slice_get, if◌then◌else◌}
use Rattle.css_base.specs.declared.direction.Direction.TheVariants.{InOut}
use Rattle.css_num.specs.declared.operators.UnOp.{UnOp}
use Rattle.css_num.specs.declared.operators.UnOp.TheVariants as unary
use Rattle.css_num.specs.declared.operators.BinOp.{BinOp}
use Rattle.css_num.specs.declared.operators.BinOp.TheVariants as binary
use Rattle.css_vm.specs.declared.code.Instr.{Instr}
use Rattle.css_vm.specs.declared.code.Op.{Op}
use Rattle.css_vm.specs.declared.code.Op.TheVariants as ops
use Rattle.css_vm.specs.declared.code.Conversion.TheVariants as conversions
use Rattle.css_vm.specs.declared.code.ShiftWidth.TheVariants as shifts
use Rattle.css_vm.specs.declared.code.Narrow.TheVariants as narrows
use Rattle.css_vm.specs.declared.code.MarkKind.{MarkKind}
use Rattle.css_vm.specs.declared.code.MarkKind.TheVariants as marks
use Rattle.css_vm.specs.declared.code.ArgShape.TheVariants as shapes
use Rattle.css_vm.specs.Code.{Shape, Routine, Code, first_line}
use Rattle.css_small.specs.declared.tree.Directive.{Directive}
use Rattle.css_small.specs.declared.tree.Directive.TheVariants as directives
use Rattle.css_small.specs.Tree.{Expression, Number, Variable, Element, Unary, Binary, And, Or, Statement, Declare, Initialise, Empty, Assign, AssignElement, Call, Mark, Put, Return, Block, If, IfElse, While, Statements, End, More, Function, Program}
use Rattle.css_small_code.specs.Meaning.{place_of, frame_of}

-- a result of 64 bits as an int
abbrev pub as_int : Op
as_int = ops.Conv narrows.S32

-- the test whether the top is 0
abbrev pub is_zero : List Op
is_zero = ops.Push (pos 0) ∷ ops.Eq ∷ []

abbrev pub unary_code : UnOp → List Op
unary_code unary.Plus = []
unary_code unary.Minus = ops.Neg ∷ as_int ∷ []
unary_code unary.Complement = ops.Not ∷ []
unary_code unary.Not = is_zero

abbrev pub binary_code : BinOp → List Op
binary_code binary.Mul = ops.Mul ∷ as_int ∷ []
binary_code binary.Div = ops.Divs ∷ as_int ∷ []
binary_code binary.Rem = ops.Rems ∷ []
binary_code binary.Add = ops.Add ∷ as_int ∷ []
binary_code binary.Sub = ops.Sub ∷ as_int ∷ []
binary_code binary.Shl = ops.Shl shifts.W32 ∷ as_int ∷ []
binary_code binary.Shr = ops.Shrs shifts.W32 ∷ []
binary_code binary.Lt = ops.Lts ∷ []
binary_code binary.Gt = ops.Swap ∷ ops.Lts ∷ []
binary_code binary.Le = ops.Swap ∷ ops.Lts ∷ is_zero
binary_code binary.Ge = ops.Lts ∷ is_zero
binary_code binary.Eq = ops.Eq ∷ []
binary_code binary.Ne = ops.Ne ∷ []
binary_code binary.And = ops.And ∷ []
binary_code binary.Xor = ops.Xor ∷ []
binary_code binary.Or = ops.Or ∷ []

-- whether the top isn't 0
abbrev pub truth_code : List Op
truth_code = ops.Push (pos 0) ∷ ops.Ne ∷ []

-- behind a pointer and an index: the address of the int so many places behind
abbrev pub index_code : List Op
index_code = ops.Push (pos 4) ∷ ops.Mul ∷ ops.Add ∷ []

-- the pointer that the parameter is
abbrev pub pointer_code : List Op
pointer_code = ops.Frame (place_of 0) ∷ ops.Load32u ∷ []

-- an expression's code at a place
abbrev pub expression_code : Expression → ℕ → List Op
expression_code (Number value) at = ops.Push (pos value) ∷ []
expression_code (Variable k) at = ops.Frame (place_of k) ∷ ops.Load32s ∷ []
expression_code (Element e) at = pointer_code ++ expression_code e (at + 2) ++ index_code ++ ops.Load32s ∷ []
expression_code (Unary op e) at = expression_code e at ++ unary_code op
expression_code (Binary op a b) at =
    let ca = expression_code a at in
    ca ++ expression_code b (at + length ca) ++ binary_code op
expression_code (And a b) at =
    let ca = expression_code a at in
    let cb = expression_code b (at + length ca + 1) in
    let no = at + length ca + 1 + length cb + 3 in
    ca ++ ops.Jumpz no ∷ cb ++ truth_code ++ ops.Jump (no + 1) ∷ ops.Push (pos 0) ∷ []
expression_code (Or a b) at =
    let ca = expression_code a at in
    let second = at + length ca + 3 in
    let cb = expression_code b second in
    ca ++ ops.Jumpz second ∷ ops.Push (pos 1) ∷ ops.Jump (second + length cb + 2) ∷ cb ++ truth_code

-- instructions of one line
abbrev pub in_line : ℕ → List Op → List Instr
in_line line [] = []
in_line line (op ∷ all) = record { op = op; line = line } ∷ in_line line all

abbrev pub assignment_code : ℕ → Expression → ℕ → List Op
assignment_code k e at = ops.Frame (place_of k) ∷ expression_code e (at + 1) ++ ops.Store32 ∷ ops.Drop ∷ []

-- the address of `p[e]`
abbrev pub element_code : Expression → ℕ → List Op
element_code e at = pointer_code ++ expression_code e (at + 2) ++ index_code

-- the place of an element comes first
abbrev pub element_assignment_code : Expression → Expression → ℕ → List Op
element_assignment_code i e at =
    let place = element_code i at in
    place ++ expression_code e (at + length place) ++ ops.Store32 ∷ ops.Drop ∷ []

abbrev pub is_task_there : Option Function → Bool
is_task_there None = false
is_task_there (Some f) = f.is_task

-- A call of a function with the address of a variable. One of a task asks whether tasks are made, behind its argument.
abbrev pub call_code : (is_task : Bool) → (function k : ℕ) → ℕ → List Op
call_code false function k at = ops.Frame (place_of k) ∷ ops.Call function ∷ ops.Drop ∷ []
call_code true function k at =
    ops.Frame (place_of k) ∷ ops.Mark marks.Started ∷ ops.Jumpz (at + 5) ∷ ops.Submit function ∷ ops.Jump (at + 6)
    ∷ ops.Call function ∷ ops.Drop ∷ []

abbrev pub mark_of : Directive → MarkKind
mark_of directives.Start = marks.Start
mark_of directives.Finish = marks.Finish
mark_of directives.Barrier = marks.Barrier

-- in a program with these functions
module _ (functions : List Function) where
  abbrev mutual
    -- a statement's code at a place
    pub statement_code : Statement → ℕ → List Instr
    statement_code (Declare line k) at = []
    statement_code (Initialise line k e) at = in_line line (assignment_code k e at)
    statement_code (Empty line) at = []
    statement_code (Assign line k e) at = in_line line (assignment_code k e at)
    statement_code (AssignElement line i e) at = in_line line (element_assignment_code i e at)
    statement_code (Call line f k) at = in_line line (call_code (is_task_there (slice_get functions f)) f k at)
    statement_code (Mark line kind) at = in_line line (ops.Mark (mark_of kind) ∷ [])
    statement_code (Put line e) at = in_line line (expression_code e at ++ ops.Out conversions.Char ∷ ops.Drop ∷ [])
    statement_code (Return line e) at = in_line line (expression_code e at ++ ops.Ret ∷ [])
    statement_code (Block line all) at = statements_code all at
    statement_code (If line e s) at =
        let ce = expression_code e at in
        let first = at + length ce + 1 in
        let cs = statement_code s first in
        in_line line (ce ++ ops.Jumpz (first + length cs) ∷ []) ++ cs
    statement_code (IfElse line e s other) at =
        let ce = expression_code e at in
        let first = at + length ce + 1 in
        let cs = statement_code s first in
        let second = first + length cs + 1 in
        let co = statement_code other second in
        in_line line (ce ++ ops.Jumpz second ∷ []) ++ cs ++ in_line line (ops.Jump (second + length co) ∷ []) ++ co
    statement_code (While line e s) at =
        let ce = expression_code e at in
        let first = at + length ce + 2 in
        let cs = statement_code s first in
        in_line line (ce ++ ops.Jumpz (first + length cs + 1) ∷ ops.Turn ∷ []) ++ cs ++ in_line line (ops.Jump at ∷ [])

    pub statements_code : Statements → ℕ → List Instr
    statements_code End at = []
    statements_code (More s rest) at =
        let first = statement_code s at in
        first ++ statements_code rest (at + length first)

-- at the closing brace: returns 0
abbrev pub end_code : ℕ → List Instr
end_code line = in_line line (ops.Push (pos 0) ∷ ops.Ret ∷ [])

-- The first instruction has the line of the function's first token: where the body's code begins in another, a push and a drop
-- stand before it.
abbrev pub entry_code : List Function → Function → List Instr
entry_code functions f =
    if nat_eq (first_line (statements_code functions f.body 0 ++ end_code f.end)) f.line then []
    else in_line f.line (ops.Push (pos 0) ∷ ops.Drop ∷ [])

-- behind an entry's code
abbrev pub body_code : List Function → Function → (entry : List Instr) → List Instr
body_code functions f entry = entry ++ statements_code functions f.body (length entry) ++ end_code f.end

-- what a task is given: an int to read and write
abbrev pub task_shape : Shape
task_shape = record { high = false; arguments = shapes.Window InOut 4 0 false ∷ [] }

-- a function that gets a pointer
abbrev pub function_code : Function → Routine
function_code f = record {
  frame = frame_of f;
  parameters = 4 ∷ [];
  task = if f.is_task then Some task_shape else None;
  body = body_code [] f [];
}

abbrev pub main_code : List Function → Function → Routine
main_code functions f = record {
  frame = frame_of f;
  parameters = [];
  task = None;
  body = body_code functions f (entry_code functions f);
}

-- the functions, and main behind them
abbrev pub program_code : Program → Code
program_code p = record {
  functions = map function_code p.functions ++ main_code p.functions p.main ∷ [];
  main = length p.functions;
}
