-- THE elaboration of parameters, and of the directive that makes a task of a function.
use Rattle.std.specs.Prelude.{ℕ, ◌+◌, pos, Bool, true, false, not, nat_le, List, [], ◌∷◌, ◌++◌, bytes_eq, Option, Some, None, Ok, Err, if◌then◌else◌}
use Rattle.css_base.specs.declared.direction.Direction.{Direction}
use Rattle.css_base.specs.declared.int_type.IntType.TheVariants.{Int}
use Rattle.css_base.specs.declared.static_fault.StaticName.TheVariants.{Redeclared, TypeMismatch, TooBig}
use Rattle.css_tree.specs.Syntax as syntax
use Rattle.css_core.specs.Core as core
use Rattle.css_types.specs.Types.{CType, Integer, Pointer, size_of, arrays_of, biggest, is_void, is_integer, is_pointer, starred, named_by}
use Rattle.css_types.specs.Judged.{Judged, after, provided, expected}
use Rattle.css_types.specs.Scopes.{Scope, InFrame, Object, Parameter, is_taken}
use Rattle.css_types.specs.Expressions.{operand_of, as_value}
use Rattle.css_types.specs.Objects.{lengths, all_there}

-- ---- parameters

-- A parameter: its type, and of a pointer the element that is left when all declared dimensions are taken off, and these dimensions, of
-- which an empty first one counts 1.
pub record Declared : Type 0 where
  pub name : Option (List ℕ)
  pub t : CType
  pub element : CType
  pub dimensions : List ℕ

abbrev pub pointed_to : CType → CType
pointed_to (Pointer to) = to
pointed_to t = t

-- the dimensions with an empty first one as 1
abbrev pub counted : List (Option ℕ) → Option (List ℕ)
counted (None ∷ more) = all_there (Some 1 ∷ more)
counted ls = all_there ls

-- a parameter that is declared as an array is a pointer to its element (C99 6.7.5.3)
abbrev pub adjusted : CType → List ℕ → CType
adjusted t [] = t
adjusted t (first ∷ more) = Pointer (arrays_of more t)

abbrev pub element_of : CType → List ℕ → CType
element_of t [] = pointed_to t
element_of t dimensions = t

abbrev pub is_name_taken : Scope → Option (List ℕ) → Bool
is_name_taken scope None = false
is_name_taken scope (Some name) = is_taken scope 1 name

-- its type and dimensions, whether its name is free, and what it points to isn't too big
abbrev pub parameter_of : Scope → (line : ℕ) → syntax.Parameter → Judged Declared
parameter_of scope line p =
    after (expected TypeMismatch line (named_by p.specifiers)) (λ base. let t = starred p.stars base in
    after (lengths scope line p.dimensions) (λ ls.
    provided (not (is_name_taken scope p.name)) Redeclared line (
    provided (not (is_void t)) TypeMismatch line (
    after (expected TypeMismatch line (counted ls)) (λ dimensions.
    provided (nat_le (size_of (pointed_to (adjusted t dimensions))) biggest) TooBig line
    (Ok (record { name = p.name; t = adjusted t dimensions; element = element_of t dimensions; dimensions = dimensions })))))))

abbrev pub listed : syntax.Parameters → List syntax.Parameter
listed (syntax.Listed all) = all
listed other = []

abbrev pub with_parameter : Scope → Option (List ℕ) → CType → (offset : ℕ) → Scope
with_parameter scope None t offset = scope
with_parameter scope (Some name) t offset = record { name = name; depth = 1; meaning = Object t (InFrame offset) } ∷ scope

-- the parameters in order, each in 8 bytes of its own, and the scope of the body
pub record Parameters : Type 0 where
  pub scope : Scope
  pub all : List Declared

abbrev pub parameters_of : Scope → (line offset : ℕ) → List syntax.Parameter → Judged Parameters
parameters_of scope line offset [] = Ok (record { scope = scope; all = [] })
parameters_of scope line offset (p ∷ ps) =
    after (parameter_of scope line p) (λ d. after (parameters_of (with_parameter scope p.name d.t offset) line (offset + 8) ps) (λ more.
    Ok (record more { all = d ∷ more.all })))

-- ---- the expressions of a task's directive

-- a parameter that breaks a rule counts as an int there; its own rule comes later
abbrev pub type_or_int : Judged Declared → CType
type_or_int (Ok d) = d.t
type_or_int (Err fault) = Integer Int

abbrev pub with_given : Scope → Option (List ℕ) → CType → (k : ℕ) → Scope
with_given scope None t k = scope
with_given scope (Some name) t k = record { name = name; depth = 1; meaning = Parameter t k } ∷ scope

-- the scope of a directive: the parameters of its own declarator, whose values the task is given
abbrev pub given_scope : Scope → (line k : ℕ) → List syntax.Parameter → Scope
given_scope scope line k [] = scope
given_scope scope line k (p ∷ ps) = given_scope (with_given scope p.name (type_or_int (parameter_of scope line p)) k) line (k + 1) ps

-- a dimension: an integer
abbrev pub dimension_of : Scope → (line : ℕ) → syntax.Expression → Judged core.Expression
dimension_of scope line e = after (as_value (operand_of scope line e)) (λ a. provided (is_integer a.t) TypeMismatch line (Ok a.e))

abbrev pub dimensions_of : Scope → (line : ℕ) → List syntax.Expression → Judged core.Expressions
dimensions_of scope line [] = Ok core.Empty
dimensions_of scope line (e ∷ es) =
    after (dimension_of scope line e) (λ d. after (dimensions_of scope line es) (λ others. Ok (core.More d others)))

-- what a clause says of a parameter
pub record Named : Type 0 where
  pub name : List ℕ
  pub direction : Direction
  pub is_strided : Bool
  pub dimensions : core.Expressions

abbrev pub argument_of : Scope → (line : ℕ) → Direction → syntax.Argument → Judged Named
argument_of scope line direction (syntax.Plain name sizes) =
    after (dimensions_of scope line sizes) (λ ds. Ok (record { name = name; direction = direction; is_strided = false; dimensions = ds }))
argument_of scope line direction (syntax.Strided name rows width stride) =
    after (dimensions_of scope line (rows ∷ width ∷ stride ∷ [])) (λ ds.
    Ok (record { name = name; direction = direction; is_strided = true; dimensions = ds }))

abbrev pub arguments_of : Scope → (line : ℕ) → Direction → List syntax.Argument → Judged (List Named)
arguments_of scope line direction [] = Ok []
arguments_of scope line direction (a ∷ all) =
    after (argument_of scope line direction a) (λ n. after (arguments_of scope line direction all) (λ more. Ok (n ∷ more)))

-- what the clauses say, in order, and whether one is `highpriority`
pub record Clauses : Type 0 where
  pub high : Bool
  pub named : List Named

abbrev pub clauses_of : Scope → (line : ℕ) → List syntax.Clause → Judged Clauses
clauses_of scope line [] = Ok (record { high = false; named = [] })
clauses_of scope line (syntax.HighPriority ∷ more) = after (clauses_of scope line more) (λ c. Ok (record c { high = true }))
clauses_of scope line (syntax.Arguments direction all ∷ more) =
    after (arguments_of scope line direction all) (λ ns. after (clauses_of scope line more) (λ c. Ok (record c { named = ns ++ c.named })))

-- what a directive before a function says; others don't stand there
abbrev pub task_clauses : Scope → (line : ℕ) → List syntax.Parameter → syntax.Directive → Judged Clauses
task_clauses scope line ps (syntax.Task own clauses) = clauses_of (given_scope scope line 0 ps) own clauses
task_clauses scope line ps d = Ok (record { high = false; named = [] })

-- ---- the parts of a task

abbrev pub numbers : List ℕ → core.Expressions
numbers [] = core.Empty
numbers (n ∷ ns) = core.More (core.Number (pos n)) (numbers ns)

abbrev pub clause_for : List Named → Option (List ℕ) → Option Named
clause_for ns None = None
clause_for [] name = None
clause_for (n ∷ ns) (Some name) = if bytes_eq n.name name then Some n else clause_for ns (Some name)

-- the directive's dimensions, and where it gives none the declared ones
abbrev pub dimensions_or : List ℕ → core.Expressions → core.Expressions
dimensions_or declared core.Empty = numbers declared
dimensions_or declared ds = ds

abbrev pub window_of : Declared → Named → core.Part
window_of p n = core.Window n.direction (size_of p.element) n.is_strided (dimensions_or p.dimensions n.dimensions)

abbrev pub window_by : Declared → Option Named → core.Part
window_by p None = core.Scalar
window_by p (Some n) = window_of p n

-- a window for a pointer that a clause names, and a number else
abbrev pub part_of : List Named → Declared → core.Part
part_of ns p = if is_pointer p.t then window_by p (clause_for ns p.name) else core.Scalar

abbrev pub parts_of : List Named → List Declared → List core.Part
parts_of ns [] = []
parts_of ns (p ∷ ps) = part_of ns p ∷ parts_of ns ps
