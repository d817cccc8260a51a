-- What the machine's inner functions make of a state inside a function.
use Rattle.std.specs.Prelude.{◌≡◌, ℕ, ◌+◌, ◌≤◌, List, [], ◌∷◌, length, take, drop, reverse, Some, slice_get}
use Rattle.css_vm.specs.declared.code.MarkKind.{MarkKind}
use Rattle.css_vm.specs.declared.code.MarkKind.TheVariants as marks
use Rattle.css_vm.specs.declared.machine.Submitted.{Submitted}
use Rattle.css_vm.specs.Code.{Routine, Shape, Code, all_dimensions, narrowed_to}
use Rattle.css_vm.specs.Machine.{State, Begin, At}
use Rattle.css_vm.specs.Stacks.{running}

-- the number of the function that runs, the place of its next instruction, and its stack
abbrev pub function_of : State → ℕ
function_of (Begin function arguments line) = function
function_of (At a callers place stack) = a.function

abbrev pub place_of : State → ℕ
place_of (Begin function arguments line) = 0
place_of (At a callers place stack) = place

abbrev pub stack_of : State → List ℕ
stack_of (Begin function arguments line) = []
stack_of (At a callers place stack) = stack

-- how many callers wait
abbrev pub depth : State → ℕ
depth (Begin function arguments line) = 0
depth (At a callers place stack) = length callers

-- with another stack
abbrev pub with_stack : List ℕ → State → State
with_stack new (Begin function arguments line) = Begin function arguments line
with_stack new (At a callers place stack) = At a callers place new

-- at the next place
abbrev pub moved : State → State
moved (Begin function arguments line) = Begin function arguments line
moved (At a callers place stack) = At a callers (place + 1) stack

-- with a cell more
abbrev pub pushed : ℕ → State → State
pushed cell s = with_stack (cell ∷ stack_of s) s

-- without so many of the topmost cells
abbrev pub dropped : ℕ → State → State
dropped count s = with_stack (drop count (stack_of s)) s

-- inside a function that is called, over a frame at a base; the caller goes on behind the call
abbrev pub with_callee : (function base : ℕ) → State → State
with_callee function base (Begin k arguments line) = Begin k arguments line
with_callee function base (At a callers place stack) =
    At (running function base) (record { activation = a; place = place + 1; stack = stack } ∷ callers) 0 []

-- back in the nearest caller, with a cell
abbrev pub returned : ℕ → State → State
returned cell (Begin function arguments line) = Begin function arguments line
returned cell (At a [] place stack) = At a [] place stack
returned cell (At a (c ∷ callers) place stack) = At c.activation callers c.place (cell ∷ c.stack)

-- behind a mark, with a cell for the answer where it asks
abbrev pub marked : MarkKind → State → State
marked marks.Started s = moved (pushed 0 s)
marked kind s = moved s

-- what a call of a task is given, and the state behind it
pub record Submits (code : Code) (old : State) (line : ℕ) (s : Submitted) (new : State) : Type 0 where
  pub function : Routine
  pub shape : Shape
  pub is_there : slice_get code.functions s.function ≡ Some function
  pub is_task : function.task ≡ Some shape
  pub cells : all_dimensions shape.arguments + length function.parameters ≤ length (stack_of old)
  pub dimensions : s.dims.items ≡ reverse (take (all_dimensions shape.arguments) (stack_of old))
  pub arguments : s.arguments.items ≡ narrowed_to function.parameters (reverse (take (length function.parameters) (drop (all_dimensions shape.arguments) (stack_of old))))
  pub line_is : s.line ≡ line
  pub new_is : new ≡ moved (pushed 0 (dropped (length function.parameters) (dropped (all_dimensions shape.arguments) old)))
