-- What the machine's inner functions make of a state inside a function.
use Rattle.std.specs.Prelude.{◌≡◌, ℕ, ◌+◌, ◌≤◌, false, List, [], ◌∷◌, length, take, drop, reverse, Some, slice_get}
use Rattle.css_semantics.specs.Dialogue.{Mode, Plain}
use Rattle.css_isa.specs.Code.{Routine, Shape, Code, all_dimensions, narrowed_to}
use Rattle.css_isa.specs.Steps.{Activation, Caller, State, Begin, At, started}
use Rattle.css_machine.specs.declared.event.Submitted.{Submitted}
use Rattle.css_machine.specs.declared.activations.Saved.{Saved}

-- ---- activations as they are kept

-- a function that runs in a mode, and wasn't called as a task
abbrev pub running : (function base : ℕ) → Mode → Activation
running function base mode = record { function = function; base = base; is_task = false; mode = mode }

-- the callers that are saved, the nearest first, with the cells of all of them
abbrev pub callers_of : List Saved → (cells : List ℕ) → List Caller
callers_of [] cells = []
callers_of (s ∷ saved) cells =
    record { activation = running s.function s.base Plain; place = s.place; stack = reverse (drop s.floor cells) } ∷ callers_of saved (take s.floor cells)

-- each caller's cells begin within those that stand below its callee's
abbrev pub StandWithin : List Saved → (cells : ℕ) → Type 0
StandWithin [] cells = Unit {0}
StandWithin (s ∷ saved) cells = (s.floor ≤ cells) × StandWithin saved s.floor

-- ---- parts of a state

-- the number of the function that runs, the place of its next instruction, and its stack
abbrev pub function_of : State → ℕ
function_of (Begin function arguments line) = function
function_of (At a callers place stack) = a.function

abbrev pub place_of : State → ℕ
place_of (Begin function arguments line) = 0
place_of (At a callers place stack) = place

abbrev pub stack_of : State → List ℕ
stack_of (Begin function arguments line) = []
stack_of (At a callers place stack) = stack

-- how many callers wait
abbrev pub depth : State → ℕ
depth (Begin function arguments line) = 0
depth (At a callers place stack) = length callers

-- ---- other states

-- with another stack
abbrev pub with_stack : List ℕ → State → State
with_stack new (Begin function arguments line) = Begin function arguments line
with_stack new (At a callers place stack) = At a callers place new

-- at the next place
abbrev pub moved : State → State
moved (Begin function arguments line) = Begin function arguments line
moved (At a callers place stack) = At a callers (place + 1) stack

-- without so many of the topmost cells
abbrev pub dropped : ℕ → State → State
dropped count s = with_stack (drop count (stack_of s)) s

-- with a cell more
abbrev pub topped : ℕ → State → State
topped cell s = with_stack (cell ∷ stack_of s) s

-- inside a function that is called, over a frame at a base; the caller goes on behind the call
abbrev pub with_callee : (function base : ℕ) → State → State
with_callee function base (Begin k arguments line) = Begin k arguments line
with_callee function base (At a callers place stack) =
    At (started function base false) (record { activation = a; place = place + 1; stack = stack } ∷ callers) 0 []

-- back in the nearest caller, with a cell
abbrev pub returned : ℕ → State → State
returned cell (Begin function arguments line) = Begin function arguments line
returned cell (At a [] place stack) = At a [] place stack
returned cell (At a (c ∷ callers) place stack) = At c.activation callers c.place (cell ∷ c.stack)

-- what a call of a task is given, and the state behind it
pub record Submits (code : Code) (old : State) (line : ℕ) (s : Submitted) (new : State) : Type 0 where
  pub function : Routine
  pub shape : Shape
  pub is_there : slice_get code.functions s.function ≡ Some function
  pub is_task : function.task ≡ Some shape
  pub cells : all_dimensions shape.arguments + length function.parameters ≤ length (stack_of old)
  pub dimensions : s.dims.items ≡ reverse (take (all_dimensions shape.arguments) (stack_of old))
  pub arguments : s.arguments.items ≡ narrowed_to function.parameters (reverse (take (length function.parameters) (drop (all_dimensions shape.arguments) (stack_of old))))
  pub line_is : s.line ≡ line
  pub new_is : new ≡ moved (topped 0 (dropped (length function.parameters) (dropped (all_dimensions shape.arguments) old)))
