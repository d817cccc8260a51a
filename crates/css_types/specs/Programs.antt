-- THE elaboration of programs: what a tree is in the core, or the static rule that it breaks first.
use Rattle.std.specs.Prelude.{ℕ, Bool, true, false, ◌&&◌, List, [], ◌∷◌, ◌++◌, map, codes, position, bytes_eq, option_map, Option, Some, None, Ok, if◌then◌else◌}
use Rattle.css_base.specs.declared.int_type.IntType.TheVariants.{Int}
use Rattle.css_base.specs.declared.static_fault.StaticName.TheVariants.{NoMain}
use Rattle.css_semantics.specs.Memory.{first_global}
use Rattle.css_tree.specs.Syntax as syntax
use Rattle.css_core.specs.Core as core
use Rattle.css_types.specs.Types.{CType, Integer, starred, named_by}
use Rattle.css_types.specs.Judged.{Judged, after, expected}
use Rattle.css_types.specs.Declarations.{Globals, global_declaration}
use Rattle.css_types.specs.Tasks.{listed}
use Rattle.css_types.specs.Functions.{Named, Functions, with_name, function_of}

-- ---- what is defined

abbrev pub defined_by : syntax.Function → Option syntax.Body → List (List ℕ)
defined_by f None = []
defined_by f (Some body) = f.name ∷ []

-- the names of the functions that are defined, in order of text; a function's number is its place among them
abbrev pub defined_in : List syntax.Item → List (List ℕ)
defined_in [] = []
defined_in (syntax.Define f ∷ items) = defined_by f f.body ++ defined_in items
defined_in (syntax.Declare d ∷ items) = defined_in items

abbrev pub is_none : List syntax.Parameter → Bool
is_none [] = true
is_none ps = false

-- a definition of main without parameters that gives an int
abbrev pub gives_int : syntax.Function → Option CType → Option syntax.Body → Bool
gives_int f (Some (Integer Int)) (Some body) = is_none (listed f.parameters) && bytes_eq f.name (codes "main")
gives_int f t body = false

abbrev pub has_main : List syntax.Item → Bool
has_main [] = false
has_main (syntax.Define f ∷ items) = if gives_int f (option_map (starred f.stars) (named_by f.specifiers)) f.body then true else has_main items
has_main (syntax.Declare d ∷ items) = has_main items

abbrev pub main_of : List syntax.Item → Option ℕ
main_of items = if has_main items then position (bytes_eq (codes "main")) (defined_in items) else None

-- ---- items in order

pub record SoFar : Type 0 where
  pub globals : Globals
  pub functions : Functions

abbrev pub nothing_yet : SoFar
nothing_yet = record {
  globals = record { scope = []; end = first_global; datums = [] };
  functions = record { scope = []; all = []; tasks = [] };
}

-- a function is a task by the first directive before it
abbrev pub finished : List (Named core.Task) → Named core.Function → core.Function
finished tasks f = record f.what { task = with_name f.name tasks }

-- where each mark was read as a directive, in a memory of so many bytes
module _ (read : syntax.Mark → syntax.Directive) (memory : ℕ) where
  -- what globals and functions see is one scope
  abbrev pub items_of : List (List ℕ) → SoFar → List syntax.Item → Judged SoFar
  items_of defined before [] = Ok before
  items_of defined before (syntax.Define f ∷ items) =
      after (function_of read defined before.functions f) (λ fs.
      items_of defined (record { globals = record before.globals { scope = fs.scope }; functions = fs }) items)
  items_of defined before (syntax.Declare d ∷ items) =
      after (global_declaration memory before.globals d) (λ g.
      items_of defined (record { globals = g; functions = record before.functions { scope = g.scope } }) items)

  -- the rule on main is tried before all others
  abbrev pub program_of : syntax.Tree → Judged core.Program
  program_of tree =
      after (expected NoMain 1 (main_of tree)) (λ main. after (items_of (defined_in tree) nothing_yet tree) (λ all.
      Ok (record {
        globals_end = all.globals.end;
        datums = all.globals.datums;
        functions = map (finished all.functions.tasks) all.functions.all;
        main = main;
      })))
