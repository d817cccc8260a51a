-- Where a statement's code begins.
use Rattle.std.specs.Prelude.{ℕ, Option, Some, None}
use Rattle.std.specs.Option.{option_or}
use Rattle.css_small.specs.Tree.{Statement, Declare, Initialise, Empty, Assign, AssignElement, Call, Mark, Put, Return, Block, If, IfElse, While, Statements, End, More}

-- the line of the first instruction of a statement or of statements, if they have any
abbrev mutual
  pub line_in : Statement → Option ℕ
  line_in (Declare line k) = None
  line_in (Initialise line k e) = Some line
  line_in (Empty line) = None
  line_in (Assign line k e) = Some line
  line_in (AssignElement line i e) = Some line
  line_in (Call line f k) = Some line
  line_in (Mark line kind) = Some line
  line_in (Put line e) = Some line
  line_in (Return line e) = Some line
  line_in (Block line all) = line_in_all all
  line_in (If line e s) = Some line
  line_in (IfElse line e s other) = Some line
  line_in (While line e s) = Some line

  pub line_in_all : Statements → Option ℕ
  line_in_all End = None
  line_in_all (More s rest) = option_or (line_in s) (line_in_all rest)
