-- Which structured code functions and programs are.
use Rattle.std.specs.Prelude.{ℕ, ◌+◌, pos, List, [], ◌∷◌, map, nat_eq, option_map, if◌then◌else◌}
use Rattle.css_core.specs.Core as core
use Rattle.css_isa.specs.declared.code.Op.TheVariants as ops
use Rattle.css_isa.specs.Code.{Datum}
use Rattle.css_blocks.specs.Pieces.{Do, Then, row}
use Rattle.css_blocks.specs.Layout.{Function, Program}
use Rattle.css_gen_expr.specs.Calls.{width_of, shape_of}
use Rattle.css_gen.specs.Statements.{pieces_of}

abbrev pub datum_of : core.Datum → Datum
datum_of d = record { address = d.address; bytes = d.bytes }

-- among these functions
module _ (fs : List core.Function) where
  -- a name may be missing
  abbrev pub function_of : (name : List ℕ) → core.Function → Function
  function_of name f = record {
    name = name;
    frame = f.frame;
    parameters = map width_of f.parameters;
    task = option_map shape_of f.task;
    body = pieces_of fs f.end f.body;
    end = f.end;
  }

  -- Main's entry has the line of its first instruction, which is that of its first token.
  abbrev pub opened : (line : ℕ) → Function → Function
  opened line f = record f { body = Then (row (Do line (ops.Push (pos 0)) ∷ Do line ops.Drop ∷ [])) f.body }

  abbrev pub function_at : (main k : ℕ) (name : List ℕ) → core.Function → Function
  function_at main k name f = if nat_eq main k then opened f.line (function_of name f) else function_of name f

  abbrev pub functions_from : (main k : ℕ) → (names : List (List ℕ)) → List core.Function → List Function
  functions_from main k names [] = []
  functions_from main k [] (f ∷ others) = function_at main k [] f ∷ functions_from main (k + 1) [] others
  functions_from main k (name ∷ names) (f ∷ others) = function_at main k name f ∷ functions_from main (k + 1) names others

-- with the functions' names in order
abbrev pub program_of : (names : List (List ℕ)) → core.Program → Program
program_of names p = record {
  globals_end = p.globals_end;
  datums = map datum_of p.datums;
  functions = functions_from p.functions p.main 0 names p.functions;
  main = p.main;
}
