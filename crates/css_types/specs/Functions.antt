-- THE elaboration of functions.
use Rattle.std.specs.Prelude.{ℕ, ◌+◌, ◌*◌, Bool, false, not, ◌&&◌, nat_le, List, [], ◌∷◌, ◌++◌, length, map, is_some, position, bytes_eq, Option, Some, None, Ok, if◌then◌else◌}
use Rattle.css_base.specs.declared.static_fault.StaticName.TheVariants.{Redeclared, TypeMismatch, TooBig}
use Rattle.css_tree.specs.Syntax as syntax
use Rattle.css_core.specs.Core as core
use Rattle.css_types.specs.Types.{CType, core_type, is_same, are_same, starred, named_by}
use Rattle.css_types.specs.Judged.{Judged, after, provided, expected}
use Rattle.css_types.specs.Scopes.{Scope, Binding, Meaning, Function, found, library_of}
use Rattle.css_types.specs.Declarations.{biggest_frame}
use Rattle.css_types.specs.Statements.{entries_of}
use Rattle.css_types.specs.Tasks.{Parameters, Declared, with_parameter, parameters_of, listed, Clauses, task_clauses, parts_of}

-- the functions that were elaborated so far, and the tasks that directives made, each with its name and in order of text
pub record Named (A : Type 0) : Type 0 where
  pub name : List ℕ
  pub what : A

pub record Functions : Type 0 where
  pub scope : Scope
  pub all : List (Named core.Function)
  pub tasks : List (Named core.Task)

abbrev pub with_name : {A : Type 0} → List ℕ → List (Named A) → Option A
with_name name [] = None
with_name name (x ∷ xs) = if bytes_eq x.name name then Some x.what else with_name name xs

-- ---- prototypes and definitions of one name

abbrev pub fits : Meaning → List CType → CType → Bool
fits (Function number parameters result) types t = are_same parameters types && is_same result t
fits other types t = false

-- the name is free outside all functions, or that of a function of the same type that isn't defined twice
abbrev pub may_by : Functions → List ℕ → (defines : Bool) → List CType → CType → Option Binding → Bool
may_by before name defines types t None = not (is_some (library_of name))
may_by before name defines types t (Some b) = fits b.meaning types t && not (defines && is_some (with_name name before.all))

abbrev pub may_declare : Functions → List ℕ → (defines : Bool) → List CType → CType → Bool
may_declare before name defines types t = may_by before name defines types t (found before.scope name)

-- a name that is known already keeps its binding
abbrev pub with_function : Scope → List ℕ → Meaning → Scope
with_function scope name meaning = if is_some (found scope name) then scope else record { name = name; depth = 0; meaning = meaning } ∷ scope

-- the parameters over a scope, in which the function is known too
abbrev pub named_in : Scope → (offset : ℕ) → List Declared → Scope
named_in scope offset [] = scope
named_in scope offset (d ∷ ds) = named_in (with_parameter scope d.name d.t offset) (offset + 8) ds

-- ---- functions, where each mark was read as a directive and these are defined somewhere in the text

module _ (read : syntax.Mark → syntax.Directive) (defined : List (List ℕ)) where
  abbrev pub number_of : List ℕ → Option ℕ
  number_of name = position (bytes_eq name) defined

  -- The expressions of the directive come before all else.
  abbrev pub clauses_at : Scope → syntax.Function → Option syntax.Mark → Judged (Option Clauses)
  clauses_at scope f None = Ok None
  clauses_at scope f (Some m) = after (task_clauses scope f.line (listed f.parameters) (read m)) (λ c. Ok (Some c))

  abbrev pub with_task : List (Named core.Task) → List ℕ → Parameters → Option Clauses → List (Named core.Task)
  with_task tasks name parameters None = tasks
  with_task tasks name parameters (Some c) = tasks ++ record { name = name; what = record { high = c.high; parts = parts_of c.named parameters.all } } ∷ []

  -- the body, whose outermost block is one scope with the parameters
  abbrev pub body_of : syntax.Function → Option syntax.Body → CType → Parameters → Functions → Judged Functions
  body_of f None result parameters before = Ok before
  body_of f (Some body) result parameters before =
      after (entries_of read (record { scope = parameters.scope; depth = 1; in_loop = false; result = result }) (8 * length parameters.all) body.entries) (λ all.
      provided (nat_le all.frame biggest_frame) TooBig f.line (Ok (record before {
        all = before.all ++ record {
          name = f.name;
          what = record {
            line = f.line;
            end = f.end;
            frame = all.frame;
            parameters = map (λ p. core_type p.t) parameters.all;
            result = core_type result;
            task = None;
            body = all.body;
          };
        } ∷ [];
      })))

  -- A prototype or a definition: its directive, what it gives, its parameters, its name, and then its body, in which it is known.
  abbrev pub function_of : Functions → syntax.Function → Judged Functions
  function_of before f =
      after (clauses_at before.scope f f.directive) (λ clauses.
      after (expected TypeMismatch f.line (named_by f.specifiers)) (λ base. let result = starred f.stars base in
      after (parameters_of before.scope f.line 0 (listed f.parameters)) (λ parameters. let types = map (λ p. p.t) parameters.all in
      provided (may_declare before f.name (is_some f.body) types result) Redeclared f.line (
      let meaning = Function (number_of f.name) types result in
      let known = with_function before.scope f.name meaning in
      body_of f f.body result (record parameters { scope = named_in known 0 parameters.all })
      (record before { scope = known; tasks = with_task before.tasks f.name parameters clauses })))))
