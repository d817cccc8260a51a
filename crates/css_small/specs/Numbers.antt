-- What the front end knows of the numbers in a tree.
use Rattle.std.specs.Prelude.{◌≡◌, ℕ, ◌+◌, ◌^◌, ◌<◌, ◌≤◌, false, length, All}
use Rattle.css_small.specs.Tree.{Expression, Number, Variable, Element, Unary, Binary, And, Or, Statement, Declare, Initialise, Empty, Assign, AssignElement, Call, Mark, Put, Return, Block, If, IfElse, While, Statements, End, More, Function, Program}

-- what a function may name: so many parameters and objects of its own, and so many functions
pub record Scope : Type 0 where
  pub parameters : ℕ
  pub objects : ℕ
  pub functions : ℕ

-- a variable: an object that is no parameter
abbrev pub IsVariable : Scope → ℕ → Type 0
IsVariable scope k = (scope.parameters ≤ k) × (k < scope.objects)

-- constants are ints, variables are the function's own, and only one that has a parameter names it
abbrev pub IsWithin : Scope → Expression → Type 0
IsWithin scope (Number value) = value ≤ 2147483647
IsWithin scope (Variable k) = IsVariable scope k
IsWithin scope (Element e) = (1 ≤ scope.parameters) × IsWithin scope e
IsWithin scope (Unary op e) = IsWithin scope e
IsWithin scope (Binary op a b) = IsWithin scope a × IsWithin scope b
IsWithin scope (And a b) = IsWithin scope a × IsWithin scope b
IsWithin scope (Or a b) = IsWithin scope a × IsWithin scope b

abbrev mutual
  pub AreWithin : Scope → Statement → Type 0
  AreWithin scope (Declare line k) = IsVariable scope k
  AreWithin scope (Initialise line k e) = IsVariable scope k × IsWithin scope e
  AreWithin scope (Empty line) = Unit {0}
  AreWithin scope (Assign line k e) = IsVariable scope k × IsWithin scope e
  AreWithin scope (AssignElement line i e) = (1 ≤ scope.parameters) × IsWithin scope i × IsWithin scope e
  AreWithin scope (Call line f k) = (f < scope.functions) × IsVariable scope k
  AreWithin scope (Mark line kind) = scope.parameters ≡ 0
  AreWithin scope (Put line e) = (scope.parameters ≡ 0) × IsWithin scope e
  AreWithin scope (Return line e) = (scope.parameters ≡ 0) × IsWithin scope e
  AreWithin scope (Block line all) = AllWithin scope all
  AreWithin scope (If line e s) = IsWithin scope e × AreWithin scope s
  AreWithin scope (IfElse line e s other) = IsWithin scope e × AreWithin scope s × AreWithin scope other
  AreWithin scope (While line e s) = IsWithin scope e × AreWithin scope s

  pub AllWithin : Scope → Statements → Type 0
  AllWithin scope End = Unit {0}
  AllWithin scope (More s rest) = AreWithin scope s × AllWithin scope rest

-- A function that names so many others: it has at most 1,000 variables, its constants are ints, and it names nothing else.
pub record IsNumbered (functions : ℕ) (f : Function) : Type 0 where
  pub few : f.variables ≤ 1000
  pub within : AllWithin (record { parameters = f.parameters; objects = f.parameters + f.variables; functions = functions }) f.body

-- A program's numbers: main has no parameters and may call each other function, which has one and calls none.
pub record HasNumbers (p : Program) : Type 0 where
  pub functions : All (λ f. (f.parameters ≡ 1) × IsNumbered 0 f) p.functions
  pub few : length p.functions < 2 ^ 32
  pub main : (p.main.parameters ≡ 0) × (p.main.is_task ≡ false) × IsNumbered (length p.functions) p.main
