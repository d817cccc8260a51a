-- Variables that have a place in a frame: a function has at most 1,000 behind its parameter, so a place has 32 bits.
use Rattle.std.specs.Prelude.{◌≤◌, Bool, true, false}
use Rattle.css_small.specs.Tree.{Expression, Number, Variable, Element, Unary, Binary, And, Or, Statement, Declare, Initialise, Empty, Assign, AssignElement, Call, Mark, Put, Return, Block, If, IfElse, While, Statements, End, More}

abbrev pub HasPlaces : Expression → Type 0
HasPlaces (Number value) = Unit {0}
HasPlaces (Variable k) = k ≤ 1000
HasPlaces (Element e) = HasPlaces e
HasPlaces (Unary op e) = HasPlaces e
HasPlaces (Binary op a b) = HasPlaces a × HasPlaces b
HasPlaces (And a b) = HasPlaces a × HasPlaces b
HasPlaces (Or a b) = HasPlaces a × HasPlaces b

abbrev mutual
  pub ArePlaced : Statement → Type 0
  ArePlaced (Declare line k) = Unit {0}
  ArePlaced (Initialise line k e) = (k ≤ 1000) × HasPlaces e
  ArePlaced (Empty line) = Unit {0}
  ArePlaced (Assign line k e) = (k ≤ 1000) × HasPlaces e
  ArePlaced (AssignElement line i e) = HasPlaces i × HasPlaces e
  ArePlaced (Call line f k) = k ≤ 1000
  ArePlaced (Mark line kind) = Unit {0}
  ArePlaced (Put line e) = HasPlaces e
  ArePlaced (Return line e) = HasPlaces e
  ArePlaced (Block line all) = AllPlaced all
  ArePlaced (If line e s) = HasPlaces e × ArePlaced s
  ArePlaced (IfElse line e s other) = HasPlaces e × ArePlaced s × ArePlaced other
  ArePlaced (While line e s) = HasPlaces e × ArePlaced s

  pub AllPlaced : Statements → Type 0
  AllPlaced End = Unit {0}
  AllPlaced (More s rest) = ArePlaced s × AllPlaced rest

-- a statement with no other in it
abbrev pub is_simple : Statement → Bool
is_simple (Block line all) = false
is_simple (If line e s) = false
is_simple (IfElse line e s other) = false
is_simple (While line e s) = false
is_simple s = true
