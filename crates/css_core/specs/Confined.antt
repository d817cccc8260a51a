-- What tasks reach: functions that ask for no input, no output and no heap, call no task, and hold no directive.
use Rattle.std.specs.Prelude.{◌≡◌, ℕ, Bool, true, false, ◌&&◌, Option, Some, None, is_none, slice_get, IsTrue}
use Rattle.css_core.specs.Core.{Expression, Number, Local, Given, Value, Assign, Update, Convert, Unary, Binary, And, Or, Choice, Sequence, Call, Input, Put, Print, Allocate, Expressions, Empty, More, Statement, Eval, Block, If, Loop, Break, Continue, Return, Mark, Await, Statements, Nothing, Then, Task, Function, Program}

-- of functions, some may be called
module _ (may_call : ℕ → Bool) where
  abbrev mutual
    pub is_inner : Expression → Bool
    is_inner (Number value) = true
    is_inner (Local offset) = true
    is_inner (Given k) = true
    is_inner (Value t place) = is_inner place
    is_inner (Assign t place e) = is_inner place && is_inner e
    is_inner (Update gives t op within place e) = is_inner place && is_inner e
    is_inner (Convert t e) = is_inner e
    is_inner (Unary op t e) = is_inner e
    is_inner (Binary op t a b) = is_inner a && is_inner b
    is_inner (And a b) = is_inner a && is_inner b
    is_inner (Or a b) = is_inner a && is_inner b
    is_inner (Choice test a b) = is_inner test && (is_inner a && is_inner b)
    is_inner (Sequence a b) = is_inner a && is_inner b
    is_inner (Call function arguments) = may_call function && are_inner arguments
    is_inner Input = false
    is_inner (Put e) = false
    is_inner (Print format arguments) = false
    is_inner (Allocate size) = false

    pub are_inner : Expressions → Bool
    are_inner Empty = true
    are_inner (More e others) = is_inner e && are_inner others

  abbrev mutual
    pub is_inner_statement : Statement → Bool
    is_inner_statement (Eval line e) = is_inner e
    is_inner_statement (Block all) = are_inner_statements all
    is_inner_statement (If line test s other) = is_inner test && (is_inner_statement s && is_inner_statement other)
    is_inner_statement (Loop line tests_first test step body) = is_inner test && (is_inner step && is_inner_statement body)
    is_inner_statement Break = true
    is_inner_statement Continue = true
    is_inner_statement (Return line e) = is_inner e
    is_inner_statement (Mark line kind) = false
    is_inner_statement (Await line places) = false

    pub are_inner_statements : Statements → Bool
    are_inner_statements Nothing = true
    are_inner_statements (Then s others) = is_inner_statement s && are_inner_statements others

-- no task
abbrev pub is_no_task : Option Function → Bool
is_no_task None = true
is_no_task (Some f) = is_none f.task

-- There are functions, the tasks among them, that call none but one another, and no task.
pub record IsConfined (p : Program) : Type 0 where
  pub inner : ℕ → Bool
  pub tasks : (number : ℕ) (f : Function) (task : Task) → slice_get p.functions number ≡ Some f → f.task ≡ Some task → IsTrue (inner number)
  pub bodies : (number : ℕ) (f : Function) → slice_get p.functions number ≡ Some f → IsTrue (inner number)
      → IsTrue (are_inner_statements (λ k. inner k && is_no_task (slice_get p.functions k)) f.body)
