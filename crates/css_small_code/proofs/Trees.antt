-- The code's trees of statements, in vectors, as lists.
use Rattle.std.proofs.Common.{◌≡◌, ℕ, ◌+◌, ◌≤◌, Vec, Global, refl, ap, ◌∙◌, arith}
use mathlib.Core.Former.{Count}
use Rattle.css_small.specs.declared.tree.Statement as coded
use Rattle.css_small.specs.declared.tree.Statement.{Row_of-Statement, end_of-Statement, more_of-Statement, items-the_row-Statement, items_hidden-the_row-Statement-0}
use Rattle.css_small.specs.Tree.{Expression, Number, Variable, Element, Unary, Binary, And, Or, Statement, Declare, Initialise, Empty, Assign, AssignElement, Call, Mark, Put, Return, Block, If, IfElse, While, Statements, End, More, Function, statement, statements, listed}
use Rattle.css_small.specs.Numbers.{Scope, IsWithin, AreWithin, AllWithin, IsNumbered}
use Rattle.css_small_code.specs.Places.{HasPlaces, ArePlaced, AllPlaced}

abbrev row_of : coded.Statement → (n : Count) × Row_of-Statement n
row_of (coded.Block' line shape row) = (_, row)
row_of _ = (_, end_of-Statement)

listed_row : (n : _) (row : Row_of-Statement n) → statements row ≡ listed (items-the_row-Statement n row)
listed_row n end_of-Statement = refl
listed_row n (more_of-Statement s rest) = ap (More (statement s)) (listed_row _ rest)

-- a block's statements are those of its vector
pub block_is : (line : ℕ) (all : Vec coded.Statement Global) → statement (coded.Block line all) ≡ Block line (listed all.items)
block_is line all =
    let row = row_of (coded.Block line all) in
    ap (Block line) (listed_row row.0 row.1 ∙ ap listed (items_hidden-the_row-Statement-0 all))

-- ---- objects below 1,001 have places

placed : (scope : Scope) → scope.objects ≤ 1001 → (e : Expression) → IsWithin scope e → HasPlaces e
placed scope few (Number value) h = tt
placed scope few (Variable k) h = omega (arith, h.1)
placed scope few (Element e) h = placed scope few e h.1
placed scope few (Unary op e) h = placed scope few e h
placed scope few (Binary op a b) h = (placed scope few a h.0, placed scope few b h.1)
placed scope few (And a b) h = (placed scope few a h.0, placed scope few b h.1)
placed scope few (Or a b) h = (placed scope few a h.0, placed scope few b h.1)

mutual
  are_placed : (scope : Scope) → scope.objects ≤ 1001 → (s : Statement) → AreWithin scope s → ArePlaced s
  are_placed scope few (Declare line k) h = tt
  are_placed scope few (Initialise line k e) h = (omega (arith, h.0.1), placed scope few e h.1)
  are_placed scope few (Empty line) h = tt
  are_placed scope few (Assign line k e) h = (omega (arith, h.0.1), placed scope few e h.1)
  are_placed scope few (AssignElement line i e) h = (placed scope few i h.1, placed scope few e h.2)
  are_placed scope few (Call line f k) h = omega (arith, h.1.1)
  are_placed scope few (Mark line kind) h = tt
  are_placed scope few (Put line e) h = placed scope few e h.1
  are_placed scope few (Return line e) h = placed scope few e h.1
  are_placed scope few (Block line all) h = all_placed scope few all h
  are_placed scope few (If line e s) h = (placed scope few e h.0, are_placed scope few s h.1)
  are_placed scope few (IfElse line e s other) h = (placed scope few e h.0, are_placed scope few s h.1, are_placed scope few other h.2)
  are_placed scope few (While line e s) h = (placed scope few e h.0, are_placed scope few s h.1)

  pub all_placed : (scope : Scope) → scope.objects ≤ 1001 → (all : Statements) → AllWithin scope all → AllPlaced all
  all_placed scope few End h = tt
  all_placed scope few (More s rest) h = (are_placed scope few s h.0, all_placed scope few rest h.1)

-- the statements of a function with at most one parameter
pub function_placed : (functions : ℕ) (f : Function) → f.parameters ≤ 1 → IsNumbered functions f → AllPlaced f.body
function_placed functions f one numbers =
    all_placed (record { parameters = f.parameters; objects = f.parameters + f.variables; functions = functions }) (omega (arith, one, numbers.few)) f.body numbers.within
