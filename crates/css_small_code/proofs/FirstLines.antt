-- The line in which a program's code begins.
use Rattle.std.proofs.Common.{◌≡◌, ℕ, ◌+◌, pos, nat_eq, if◌then◌else◌, List, [], ◌∷◌, ◌++◌, length, Option, Some, None, refl, ap, sym, ◌∙◌, append_assoc, Bool, true, false}
use Rattle.std.specs.Prelude.{slice_get}
use Rattle.std.specs.Option.{option_or, unwrap_or}
use Rattle.css_vm.specs.declared.code.Instr.{Instr}
use Rattle.css_vm.specs.declared.code.Op.{Op}
use Rattle.css_vm.specs.declared.code.Op.TheVariants as ops
use Rattle.css_vm.specs.declared.code.Conversion.TheVariants as conversions
use Rattle.css_vm.specs.Code.{first_line}
use Rattle.css_small.specs.Tree.{Statement, Declare, Initialise, Empty, Assign, AssignElement, Call, Mark, Put, Return, Block, If, IfElse, While, Statements, End, More, Function}
use Rattle.css_small_code.specs.Code.{in_line, expression_code, call_code, is_task_there, statement_code, statements_code, end_code, entry_code}
use Rattle.css_small_code.specs.Lines.{line_in, line_in_all}

-- code of one line that isn't empty
first_in_line : (line : ℕ) (xs : List Op) (y : Op) (ys : List Op) (rest : List Instr) → first_line (in_line line (xs ++ y ∷ ys) ++ rest) ≡ line
first_in_line line [] y ys rest = refl
first_in_line line (x ∷ xs) y ys rest = refl

-- the code begins in the line, whatever stands behind it
abbrev Begins : ℕ → List Instr → Type 0
Begins line code = (rest : List Instr) → first_line (code ++ rest) ≡ line

begins_both : (line : ℕ) (xs ys : List Instr) → Begins line xs → Begins line (xs ++ ys)
begins_both line xs ys h rest = ap first_line (append_assoc xs ys rest) ∙ h (ys ++ rest)

-- by the first of two parts or by the second
first_of_both : (a b : Option ℕ) (default : ℕ) → unwrap_or a (unwrap_or b default) ≡ unwrap_or (option_or a b) default
first_of_both None b default = refl
first_of_both (Some line) b default = refl

first_of_call : (line : ℕ) (is_task : Bool) (f k at : ℕ) (rest : List Instr) → first_line (in_line line (call_code is_task f k at) ++ rest) ≡ line
first_of_call line true f k at rest = refl
first_of_call line false f k at rest = refl

module _ (functions : List Function) where
  mutual
    first_of_statement : (s : Statement) (at : ℕ) (rest : List Instr) → first_line (statement_code functions s at ++ rest) ≡ unwrap_or (line_in s) (first_line rest)
    first_of_statement (Declare line k) at rest = refl
    first_of_statement (Initialise line k e) at rest = refl
    first_of_statement (Empty line) at rest = refl
    first_of_statement (Assign line k e) at rest = refl
    first_of_statement (AssignElement line i e) at rest = refl
    first_of_statement (Call line f k) at rest = first_of_call line (is_task_there (slice_get functions f)) f k at rest
    first_of_statement (Mark line kind) at rest = refl
    first_of_statement (Put line e) at rest = first_in_line line (expression_code e at) (ops.Out conversions.Char) (ops.Drop ∷ []) rest
    first_of_statement (Return line e) at rest = first_in_line line (expression_code e at) ops.Ret [] rest
    first_of_statement (Block line all) at rest = first_of_statements all at rest
    first_of_statement (If line e s) at rest =
        let ce = expression_code e at in
        let first = at + length ce + 1 in
        let cs = statement_code functions s first in
        let test = ops.Jumpz (first + length cs) in
        begins_both line (in_line line (ce ++ test ∷ [])) cs (first_in_line line ce test []) rest
    first_of_statement (IfElse line e s other) at rest =
        let ce = expression_code e at in
        let first = at + length ce + 1 in
        let cs = statement_code functions s first in
        let second = first + length cs + 1 in
        let co = statement_code functions other second in
        let test = ops.Jumpz second in
        let jump = in_line line (ops.Jump (second + length co) ∷ []) in
        let head = in_line line (ce ++ test ∷ []) in
        begins_both line (head ++ cs ++ jump) co (begins_both line (head ++ cs) jump (begins_both line head cs (first_in_line line ce test []))) rest
    first_of_statement (While line e s) at rest =
        let ce = expression_code e at in
        let first = at + length ce + 2 in
        let cs = statement_code functions s first in
        let test = ops.Jumpz (first + length cs + 1) in
        let head = in_line line (ce ++ test ∷ ops.Turn ∷ []) in
        begins_both line (head ++ cs) (in_line line (ops.Jump at ∷ [])) (begins_both line head cs (first_in_line line ce test (ops.Turn ∷ []))) rest

    pub first_of_statements : (all : Statements) (at : ℕ) (rest : List Instr) → first_line (statements_code functions all at ++ rest) ≡ unwrap_or (line_in_all all) (first_line rest)
    first_of_statements End at rest = refl
    first_of_statements (More s others) at rest =
        let first = statement_code functions s at in
        let behind = statements_code functions others (at + length first) in
        ap first_line (append_assoc first behind rest)
        ∙ first_of_statement s at (behind ++ rest)
        ∙ ap (unwrap_or (line_in s)) (first_of_statements others (at + length first) rest)
        ∙ first_of_both (line_in s) (line_in_all others) (first_line rest)

-- where a function's body begins
begins : (functions : List Function) (f : Function) → first_line (statements_code functions f.body 0 ++ end_code f.end) ≡ unwrap_or (line_in_all f.body) f.end
begins functions f = first_of_statements functions f.body 0 (end_code f.end)

-- the entry's code, by whether the body's code begins in the function's line
abbrev pub entry_if : Bool → ℕ → List Instr
entry_if within line = if within then [] else in_line line (ops.Push (pos 0) ∷ ops.Drop ∷ [])

pub entry_is : (functions : List Function) (f : Function) (line : ℕ) (within : Bool) → line ≡ unwrap_or (line_in_all f.body) f.end → nat_eq line f.line ≡ within → entry_code functions f ≡ entry_if within f.line
entry_is functions f line within is test = ap (λ l. entry_if (nat_eq l f.line) f.line) (begins functions f ∙ sym is) ∙ ap (λ b. entry_if b f.line) test
