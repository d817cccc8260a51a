-- A program without its directives.
use Rattle.std.specs.Prelude.{false, map, if◌then◌else◌}
use Rattle.css_small.specs.Tree.{Statement, Mark, Empty, Block, If, IfElse, While, Statements, End, More, is_directive, Function, Program}

-- Directives among other statements are left out. One that is the whole body of an `if` or of a loop becomes an empty statement.
abbrev mutual
  pub unmarked_statement : Statement → Statement
  unmarked_statement (Mark line kind) = Empty line
  unmarked_statement (Block line all) = Block line (unmarked_statements all)
  unmarked_statement (If line e s) = If line e (unmarked_statement s)
  unmarked_statement (IfElse line e s other) = IfElse line e (unmarked_statement s) (unmarked_statement other)
  unmarked_statement (While line e s) = While line e (unmarked_statement s)
  unmarked_statement s = s

  pub unmarked_statements : Statements → Statements
  unmarked_statements End = End
  unmarked_statements (More s rest) = if is_directive s then unmarked_statements rest else More (unmarked_statement s) (unmarked_statements rest)

-- no function is a task
abbrev pub unmarked_function : Function → Function
unmarked_function f = record f { is_task = false; body = unmarked_statements f.body }

abbrev pub unmarked : Program → Program
unmarked p = record { functions = map unmarked_function p.functions; main = unmarked_function p.main }
