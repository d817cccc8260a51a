-- What program of the small language a tree is: each function below gives what its part of the tree is, or None where that isn't of
-- the small language.
--   program  := { function } main
--   function := [ `#pragma css task inout(P)` ] `void` NAME `(` `int` `*` P `)` `{` { decl | stmt } `}`
--   main     := `int` `main` `(` `void` `)` `{` { decl | mark | stmt } `}`
--   decl     := `int` NAME [ `=` expr ] `;`
--   mark     := `#pragma css start` | `#pragma css finish` | `#pragma css barrier`
--   stmt     := `{` { mark | stmt } `}` | `;` | NAME `=` expr `;` | P `[` expr `]` `=` expr `;` | NAME `(` `&` NAME `)` `;`
--             | `putchar` `(` expr `)` `;` | `return` expr `;` | `if` `(` expr `)` stmt [ `else` stmt ] | `while` `(` expr `)` stmt
--   expr     := the unary operators `+` `-` `~` `!` and the binary ones over variables, P `[` expr `]` and constants of type int
-- Marks, calls, `putchar` and `return` stand in main alone. A name is known from its declaration on, and is declared once.
use Rattle.std.specs.Prelude.{ℕ, ◌-◌, nat_le, Bool, true, false, ◌&&◌, if◌then◌else◌, List, [], ◌∷◌, ◌++◌, length, codes, Option, Some, None, bytes_eq, option_map, option_and_then}
use Rattle.css_base.specs.declared.int_type.IntType.TheVariants as types
use Rattle.css_base.specs.Tokens as tokens
use Rattle.css_base.specs.Tokens.{Kind, Word, Punctuator, Lexemes, At}
use Rattle.css_num.specs.declared.operators.UnOp.{UnOp}
use Rattle.css_num.specs.declared.operators.UnOp.TheVariants as unary
use Rattle.css_num.specs.declared.operators.BinOp.TheVariants as binary
use Rattle.css_tree.specs.declared.operators.UnaryOperator.{UnaryOperator}
use Rattle.css_tree.specs.declared.operators.UnaryOperator.TheVariants as unaries
use Rattle.css_tree.specs.declared.operators.BinaryOperator.{BinaryOperator}
use Rattle.css_tree.specs.declared.operators.BinaryOperator.TheVariants as binaries
use Rattle.css_tree.specs.declared.operators.AssignOperator.TheVariants as assignments
use Rattle.css_tree.specs.declared.words.Specifier.{Specifier}
use Rattle.css_tree.specs.declared.words.Specifier.TheVariants as specifiers
use Rattle.css_tree.specs.Syntax as syntax
use Rattle.css_small.specs.declared.tree.Directive.{Directive}
use Rattle.css_small.specs.declared.tree.Directive.TheVariants as directives
use Rattle.css_small.specs.Tree.{Expression, Number, Variable, Element, Unary, Binary, And, Or, Statement, Declare, Initialise, Empty, Assign, AssignElement, Call, Mark, Put, Return, Block, If, IfElse, While, Statements, End, More, Function, Program}
use Rattle.css_small.specs.Names.{Names, in_main, in_function, with_object, is_in_main, variable_of, is_parameter, function_of, is_fresh, may_declare, may_define}

-- two parts put together, where both are there
abbrev pub both : {A B C : Type 0} → (A → B → C) → Option A → Option B → Option C
both join (Some a) (Some b) = Some (join a b)
both join (Some a) None = None
both join None b = None

-- only where this holds
abbrev pub where_true : {A : Type 0} → Bool → Option A → Option A
where_true holds part = if holds then part else None

-- ---- expressions

abbrev pub unary_of : UnaryOperator → Option UnOp
unary_of unaries.Plus = Some unary.Plus
unary_of unaries.Minus = Some unary.Minus
unary_of unaries.Complement = Some unary.Complement
unary_of unaries.Not = Some unary.Not
unary_of unaries.AddressOf = None
unary_of unaries.Dereference = None

-- an operator between two operands
abbrev pub joined : BinaryOperator → Expression → Expression → Expression
joined binaries.Multiply a b = Binary binary.Mul a b
joined binaries.Divide a b = Binary binary.Div a b
joined binaries.Remainder a b = Binary binary.Rem a b
joined binaries.Add a b = Binary binary.Add a b
joined binaries.Subtract a b = Binary binary.Sub a b
joined binaries.ShiftLeft a b = Binary binary.Shl a b
joined binaries.ShiftRight a b = Binary binary.Shr a b
joined binaries.Less a b = Binary binary.Lt a b
joined binaries.Greater a b = Binary binary.Gt a b
joined binaries.LessOrEqual a b = Binary binary.Le a b
joined binaries.GreaterOrEqual a b = Binary binary.Ge a b
joined binaries.Equal a b = Binary binary.Eq a b
joined binaries.NotEqual a b = Binary binary.Ne a b
joined binaries.BitAnd a b = Binary binary.And a b
joined binaries.BitXor a b = Binary binary.Xor a b
joined binaries.BitOr a b = Binary binary.Or a b
joined binaries.And a b = And a b
joined binaries.Or a b = Or a b

-- a constant of type int
abbrev pub number_of_value : ℕ → Option Expression
number_of_value value = where_true (nat_le value 2147483647) (Some (Number value))

-- the parameter is named
abbrev pub names_parameter : Names → syntax.Expression → Bool
names_parameter names (syntax.Name line name) = is_parameter names name
names_parameter names e = false

abbrev pub expression_of : Names → syntax.Expression → Option Expression
expression_of names (syntax.Number line types.Int value) = number_of_value value
expression_of names (syntax.Name line name) = option_map Variable (variable_of names name)
expression_of names (syntax.Index line array index) = where_true (names_parameter names array) (option_map Element (expression_of names index))
expression_of names (syntax.Unary line op a) = both Unary (unary_of op) (expression_of names a)
expression_of names (syntax.Binary line a op b) = both (joined op) (expression_of names a) (expression_of names b)
expression_of names e = None

-- ---- statements

-- `x = e` or `p[i] = e`
abbrev pub assignment_of : Names → (line : ℕ) → (place value : syntax.Expression) → Option Statement
assignment_of names line (syntax.Name at name) value = both (Assign line) (variable_of names name) (expression_of names value)
assignment_of names line (syntax.Index at array index) value =
    where_true (names_parameter names array) (both (AssignElement line) (expression_of names index) (expression_of names value))
assignment_of names line place value = None

-- the variable whose address this is
abbrev pub address_of : Names → syntax.Expression → Option ℕ
address_of names (syntax.Unary line unaries.AddressOf (syntax.Name at name)) = variable_of names name
address_of names e = None

-- `putchar(e)` or `f(&x)`
abbrev pub call_of : Names → (line : ℕ) → (name : List ℕ) → (argument : syntax.Expression) → Option Statement
call_of names line name argument =
    if bytes_eq name (codes "putchar") then where_true (is_in_main names) (option_map (Put line) (expression_of names argument))
    else both (Call line) (function_of names name) (address_of names argument)

-- an expression that is a statement
abbrev pub effect_of : Names → (line : ℕ) → syntax.Expression → Option Statement
effect_of names line (syntax.Assign at place assignments.Assign value) = assignment_of names line place value
effect_of names line (syntax.Call at name (syntax.More argument syntax.End)) = call_of names line name argument
effect_of names line e = None

-- the kinds of a directive's words
abbrev pub kinds_of : Lexemes → List Kind
kinds_of tokens.End = []
kinds_of (tokens.More (At kind line place end) others) = kind ∷ kinds_of others

abbrev pub directive_named : List ℕ → Option Directive
directive_named word =
    if bytes_eq word (codes "start") then Some directives.Start
    else (if bytes_eq word (codes "finish") then Some directives.Finish
    else (if bytes_eq word (codes "barrier") then Some directives.Barrier else None))

abbrev pub directive_of : List Kind → Option Directive
directive_of (Word word ∷ []) = directive_named word
directive_of kinds = None

abbrev pub mark_of : Names → syntax.Mark → Option Statement
mark_of names m = where_true (is_in_main names) (option_map (Mark m.line) (directive_of (kinds_of m.words)))

abbrev mutual
  pub statement_of : Names → syntax.Statement → Option Statement
  statement_of names (syntax.Block line entries) = option_map (Block line) (statements_of names entries)
  statement_of names (syntax.Evaluate line None) = Some (Empty line)
  statement_of names (syntax.Evaluate line (Some e)) = effect_of names line e
  statement_of names (syntax.If line e s) = both (If line) (expression_of names e) (statement_of names s)
  statement_of names (syntax.IfElse line e s other) = both (λ (f : Statement → Statement) (t : Statement). f t) (both (λ e s t. IfElse line e s t) (expression_of names e) (statement_of names s)) (statement_of names other)
  statement_of names (syntax.While line e s) = both (While line) (expression_of names e) (statement_of names s)
  statement_of names (syntax.Return line (Some e)) = where_true (is_in_main names) (option_map (Return line) (expression_of names e))
  statement_of names s = None

  -- what stands in a block: marks and statements
  pub statements_of : Names → syntax.Entries → Option Statements
  statements_of names syntax.NoEntries = Some End
  statements_of names (syntax.MoreEntries first others) = both More (entry_of names first) (statements_of names others)

  pub entry_of : Names → syntax.Entry → Option Statement
  entry_of names (syntax.Stated s) = statement_of names s
  entry_of names (syntax.Marked m) = mark_of names m
  entry_of names (syntax.Declared d) = None

-- ---- bodies

abbrev pub is_empty : {A : Type 0} → List A → Bool
is_empty [] = true
is_empty (a ∷ others) = false

abbrev pub is_int : List Specifier → Bool
is_int (specifiers.Int ∷ []) = true
is_int words = false

abbrev pub is_void : List Specifier → Bool
is_void (specifiers.Void ∷ []) = true
is_void words = false

-- one name alone, without stars and sizes
abbrev pub plain : List syntax.Declarator → Option syntax.Declarator
plain (x ∷ []) = where_true (is_empty x.stars && is_empty x.dimensions) (Some x)
plain xs = None

-- the one name that is declared as an int
abbrev pub declared : syntax.Declaration → Option syntax.Declarator
declared d = where_true (is_int d.specifiers) (plain d.declarators)

-- a declaration, without a value or with one of these names
abbrev pub with_value : Names → (line k : ℕ) → Option syntax.Initialiser → Option Statement
with_value names line k None = Some (Declare line k)
with_value names line k (Some (syntax.Value e)) = option_map (Initialise line k) (expression_of names e)
with_value names line k (Some other) = None

-- A declared name is known in its own value (C99 6.2.1).
abbrev pub variable : Names → (line : ℕ) → syntax.Declarator → Option Statement
variable names line x =
    where_true (may_declare names x.name) (with_value (with_object names x.name) line (length names.objects) x.initialiser)

-- what stands in a function's body: declarations too
abbrev pub item_of : Names → syntax.Entry → Option Statement
item_of names (syntax.Declared d) = option_and_then (variable names d.line) (declared d)
item_of names (syntax.Stated s) = statement_of names s
item_of names (syntax.Marked m) = mark_of names m

abbrev pub with_declared : Names → Option syntax.Declarator → Names
with_declared names (Some x) = with_object names x.name
with_declared names None = names

-- what may be named behind an entry
abbrev pub behind : Names → syntax.Entry → Names
behind names (syntax.Declared d) = with_declared names (declared d)
behind names (syntax.Stated s) = names
behind names (syntax.Marked m) = names

abbrev pub items_of : Names → syntax.Entries → Option Statements
items_of names syntax.NoEntries = Some End
items_of names (syntax.MoreEntries first others) = both More (item_of names first) (items_of (behind names first) others)

-- what may be named behind all entries
abbrev pub behind_all : Names → syntax.Entries → Names
behind_all names syntax.NoEntries = names
behind_all names (syntax.MoreEntries first others) = behind_all (behind names first) others

-- ---- functions

-- a function with this body
abbrev pub with_body : Bool → (line end : ℕ) → Names → syntax.Entries → Statements → Function
with_body is_task line end names entries body = record {
  is_task = is_task;
  line = line;
  end = end;
  parameters = names.parameters;
  variables = length (behind_all names entries).objects - names.parameters;
  body = body;
}

abbrev pub body_of : Bool → (line end : ℕ) → Names → Option syntax.Body → Option Function
body_of is_task line end names None = None
body_of is_task line end names (Some body) = option_map (with_body is_task line end names body.entries) (items_of names body.entries)

-- the parameter that a task's directive names
abbrev pub task_of : List Kind → Option (List ℕ)
task_of (Word task ∷ Word inout ∷ Punctuator opens ∷ Word parameter ∷ Punctuator closes ∷ []) =
    where_true (bytes_eq task (codes "task") && bytes_eq inout (codes "inout") && bytes_eq opens (codes "(") && bytes_eq closes (codes ")")) (Some parameter)
task_of kinds = None

abbrev pub is_named : List ℕ → Option (List ℕ) → Bool
is_named name None = false
is_named name (Some other) = bytes_eq other name

-- whether a function with this parameter is a task
abbrev pub is_task_of : List ℕ → Option syntax.Mark → Option Bool
is_task_of parameter None = Some false
is_task_of parameter (Some m) = where_true (is_named parameter (task_of (kinds_of m.words))) (Some true)

-- one star, with no word behind it
abbrev pub is_star : syntax.Stars → Bool
is_star ([] ∷ []) = true
is_star stars = false

-- the name of a pointer to an int, alone
abbrev pub pointer_of : syntax.Parameters → Option (List ℕ)
pointer_of (syntax.Listed (p ∷ [])) = where_true (is_int p.specifiers && is_star p.stars && is_empty p.dimensions) p.name
pointer_of parameters = None

abbrev pub function_with : syntax.Function → List ℕ → Option Function
function_with f parameter =
    where_true (is_fresh [] parameter)
    (option_and_then (λ is_task. body_of is_task f.line f.end (in_function parameter) f.body) (is_task_of parameter f.directive))

-- a function behind these
abbrev pub function_behind : List (List ℕ) → syntax.Function → Option Function
function_behind names f =
    where_true (is_void f.specifiers && is_empty f.stars && may_define names f.name) (option_and_then (function_with f) (pointer_of f.parameters))

abbrev pub is_void_alone : syntax.Parameters → Bool
is_void_alone syntax.VoidAlone = true
is_void_alone parameters = false

abbrev pub is_none : {A : Type 0} → Option A → Bool
is_none None = true
is_none (Some a) = false

-- main behind these functions
abbrev pub main_behind : List (List ℕ) → syntax.Function → Option Function
main_behind names f =
    where_true (is_none f.directive && is_int f.specifiers && is_empty f.stars && bytes_eq f.name (codes "main") && is_void_alone f.parameters)
    (body_of false f.line f.end (in_main names) f.body)

-- ---- programs

abbrev pub main_alone : Function → Program
main_alone main = record { functions = []; main = main }

abbrev pub with_function : Function → Program → Program
with_function f p = record p { functions = f ∷ p.functions }

-- functions behind these, and then main
abbrev pub program_behind : List (List ℕ) → syntax.Tree → Option Program
program_behind names [] = None
program_behind names (syntax.Declare d ∷ items) = None
program_behind names (syntax.Define f ∷ []) = option_map main_alone (main_behind names f)
program_behind names (syntax.Define f ∷ i ∷ items) = both with_function (function_behind names f) (program_behind (names ++ f.name ∷ []) (i ∷ items))

abbrev pub program_of : syntax.Tree → Option Program
program_of tree = program_behind [] tree
