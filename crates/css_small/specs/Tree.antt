-- Programs as plain data.
use Rattle.std.specs.Prelude.{ℕ, List, [], ◌∷◌, map, Bool, true, false}
use Rattle.css_num.specs.declared.operators.UnOp.{UnOp}
use Rattle.css_num.specs.declared.operators.BinOp.{BinOp}
use Rattle.css_small.specs.declared.tree.Expression as code
use Rattle.css_small.specs.declared.tree.Statement as coded
use Rattle.css_small.specs.declared.tree.Directive.{Directive}
use Rattle.css_small.specs.declared.tree.Function as defined
use Rattle.css_small.specs.declared.tree.Program as whole

-- An expression of type int. A function's objects are numbered in the order of its frame: a parameter, and then its variables.
pub data Expression : Type 0 where
  Number : (value : ℕ) → Expression
  Variable : (k : ℕ) → Expression
  -- `p[e]` of the parameter
  Element : (e : Expression) → Expression
  Unary : (op : UnOp) (e : Expression) → Expression
  Binary : (op : BinOp) (a b : Expression) → Expression
  And : (a b : Expression) → Expression
  Or : (a b : Expression) → Expression

-- a statement, declaration or directive with its line, and a list of them
mutual
  pub data Statement : Type 0 where
    Declare : (line k : ℕ) → Statement
    Initialise : (line k : ℕ) (e : Expression) → Statement
    Empty : (line : ℕ) → Statement
    Assign : (line k : ℕ) (e : Expression) → Statement
    AssignElement : (line : ℕ) (index e : Expression) → Statement
    Call : (line function k : ℕ) → Statement
    Mark : (line : ℕ) (kind : Directive) → Statement
    Put : (line : ℕ) (e : Expression) → Statement
    Return : (line : ℕ) (e : Expression) → Statement
    Block : (line : ℕ) (all : Statements) → Statement
    If : (line : ℕ) (e : Expression) (s : Statement) → Statement
    IfElse : (line : ℕ) (e : Expression) (s other : Statement) → Statement
    While : (line : ℕ) (e : Expression) (s : Statement) → Statement

  pub data Statements : Type 0 where
    End : Statements
    More : (first : Statement) (others : Statements) → Statements

-- a function: whether it is a task, the lines of its first token and of its closing brace, how many parameters and variables it has,
-- and its body
pub record Function : Type 0 where
  pub is_task : Bool
  pub line : ℕ
  pub end : ℕ
  pub parameters : ℕ
  pub variables : ℕ
  pub body : Statements

-- the functions that main may call, and main
pub record Program : Type 0 where
  pub functions : List Function
  pub main : Function

-- ---- the code's trees as plain data

abbrev pub expression : code.Expression → Expression
expression (code.Number value) = Number value
expression (code.Variable k) = Variable k
expression (code.Element' p e) = Element (expression e)
expression (code.Unary' op p e) = Unary op (expression e)
expression (code.Binary' op p a q b) = Binary op (expression a) (expression b)
expression (code.And' p a q b) = And (expression a) (expression b)
expression (code.Or' p a q b) = Or (expression a) (expression b)

abbrev mutual
  pub statement : coded.Statement → Statement
  statement (coded.Declare line k) = Declare line k
  statement (coded.Initialise line k e) = Initialise line k (expression e)
  statement (coded.Empty line) = Empty line
  statement (coded.Assign line k e) = Assign line k (expression e)
  statement (coded.AssignElement line i e) = AssignElement line (expression i) (expression e)
  statement (coded.Call line f k) = Call line f k
  statement (coded.Directive line kind) = Mark line kind
  statement (coded.Put line e) = Put line (expression e)
  statement (coded.Return line e) = Return line (expression e)
  statement (coded.Block' line shape all) = Block line (statements all)
  statement (coded.If' line e p s) = If line (expression e) (statement s)
  statement (coded.IfElse' line e p s q other) = IfElse line (expression e) (statement s) (statement other)
  statement (coded.While' line e p s) = While line (expression e) (statement s)

  pub statements : {m : _} → coded.Row_of-Statement m → Statements
  statements coded.end_of-Statement = End
  statements (coded.more_of-Statement s rest) = More (statement s) (statements rest)

-- a list of the code's statements
abbrev pub listed : List coded.Statement → Statements
listed [] = End
listed (s ∷ ss) = More (statement s) (listed ss)

abbrev pub function : defined.Function → Function
function f = record {
  is_task = f.is_task;
  line = f.line;
  end = f.end;
  parameters = f.parameters;
  variables = f.variables;
  body = listed f.body.items;
}

abbrev pub program : whole.Program → Program
program p = record { functions = map function p.functions.items; main = function p.main }

-- ---- directives

abbrev pub is_directive : Statement → Bool
is_directive (Mark line kind) = true
is_directive s = false
