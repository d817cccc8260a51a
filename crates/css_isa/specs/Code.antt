-- A program's code as the machine's definitions see it.
use Rattle.std.specs.Prelude.{ℕ, ◌+◌, ◌*◌, ◌%◌, ◌^◌, Bool, List, [], ◌∷◌, map, take, drop, Option, option_map}
use Rattle.css_semantics.specs.Dialogue.{Argument, Call}
use Rattle.css_isa.specs.declared.code as coded
use Rattle.css_isa.specs.declared.code.Instr.{Instr}
use Rattle.css_isa.specs.declared.code.ArgShape.{ArgShape}
use Rattle.css_isa.specs.declared.code.ArgShape.TheVariants as shapes
use Rattle.css_isa.specs.Cells.{signed}
use Rattle.css_isa.specs.Spaces.{bytes_of}

-- what a task is given for its parameters, and whether it goes before others
pub record Shape : Type 0 where
  pub high : Bool
  pub arguments : List ArgShape

-- a function: its name, the bytes of its frame and of each parameter, what its calls are where it is a task, and its instructions
pub record Routine : Type 0 where
  pub name : List ℕ
  pub frame : ℕ
  pub parameters : List ℕ
  pub task : Option Shape
  pub body : List Instr

-- first bytes of globals, from an address on
pub record Datum : Type 0 where
  pub address : ℕ
  pub bytes : List ℕ

-- where the globals end, those of their first bytes that aren't all 0, the functions, and main's number
pub record Code : Type 0 where
  pub globals_end : ℕ
  pub datums : List Datum
  pub functions : List Routine
  pub main : ℕ

abbrev pub shape : coded.TaskShape.TaskShape → Shape
shape s = record { high = s.high; arguments = s.args }

abbrev pub routine : coded.Function.Function → Routine
routine f = record {
  name = f.name;
  frame = f.frame;
  parameters = map bytes_of f.params;
  task = option_map shape f.task;
  body = f.body;
}

abbrev pub datum : coded.Datum.Datum → Datum
datum d = record { address = d.address; bytes = d.bytes }

abbrev pub code_of : coded.Code.Code → Code
code_of c = record {
  globals_end = c.globals_end;
  datums = map datum c.datums;
  functions = map routine c.functions;
  main = c.main;
}

-- the line of the first instruction
abbrev pub first_line : List Instr → ℕ
first_line [] = 0
first_line (i ∷ is) = i.line

-- ---- calls of tasks

-- how many dimensions a call has
abbrev pub dimensions_of : ArgShape → ℕ
dimensions_of shapes.Scalar = 0
dimensions_of (shapes.Window direction element dims strided) = dims

abbrev pub all_dimensions : List ArgShape → ℕ
all_dimensions [] = 0
all_dimensions (s ∷ shapes) = dimensions_of s + all_dimensions shapes

-- the integers among the arguments of a call
abbrev pub scalars_of : List ArgShape → (arguments : List ℕ) → List ℕ
scalars_of (shapes.Scalar ∷ shapes) (a ∷ arguments) = a ∷ scalars_of shapes arguments
scalars_of (shapes.Window direction element dims strided ∷ shapes) (a ∷ arguments) = scalars_of shapes arguments
scalars_of [] arguments = []
scalars_of (s ∷ shapes) [] = []

-- the pointers among them, each with its dimensions
abbrev pub pointers_of : List ArgShape → (arguments dimensions : List ℕ) → List Argument
pointers_of (shapes.Scalar ∷ shapes) (a ∷ arguments) dimensions = pointers_of shapes arguments dimensions
pointers_of (shapes.Window direction element dims strided ∷ shapes) (a ∷ arguments) dimensions =
    record { base = a; element = element; dimensions = map signed (take dims dimensions); is_strided = strided; direction = direction }
    ∷ pointers_of shapes arguments (drop dims dimensions)
pointers_of [] arguments dimensions = []
pointers_of (s ∷ shapes) [] dimensions = []

-- the low bytes of each argument, as many as its parameter has
abbrev pub narrowed_to : (parameters arguments : List ℕ) → List ℕ
narrowed_to (width ∷ parameters) (a ∷ arguments) = a % 2 ^ (8 * width) ∷ narrowed_to parameters arguments
narrowed_to [] arguments = []
narrowed_to (width ∷ parameters) [] = []

-- a call of a task, with its arguments and dimensions, where main's stack place is this
abbrev pub call_of : (function : ℕ) → Routine → Shape → (arguments dimensions : List ℕ) → (stack_place : ℕ) → Call
call_of function f s arguments dimensions stack_place =
    let values = narrowed_to f.parameters arguments in
    record {
      function = function;
      scalars = scalars_of s.arguments values;
      arguments = pointers_of s.arguments values dimensions;
      stack_place = stack_place;
      is_high = s.high;
    }
