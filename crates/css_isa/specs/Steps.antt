-- One step of the machine as plain data, before any world is applied; and what a world makes of it.
use Rattle.std.specs.Prelude.{ℕ, zero, suc, ◌+◌, ◌%◌, ◌^◌, Bool, true, false, List, [], ◌∷◌, length, take, drop, reverse, Option, Some, None, slice_get, nat_eq, nat_le, if◌then◌else◌}
use Rattle.css_base.specs.declared.int_type.IntType.{IntType}
use Rattle.css_base.specs.declared.ending.FaultKind.{FaultKind}
use Rattle.css_semantics.specs.Dialogue.{Action, Enter, Leave, Store, Calls, Returns, Call, Tape, World, Outcome, Goes, then_do, Mode, Plain, ask, ask_in, fault_in}
use Rattle.css_semantics.specs.Memory.{big_endian_bytes}
use Rattle.css_semantics.specs.Tasks.{makes_tasks}
use Rattle.css_isa.specs.declared.code.Instr.{Instr}
use Rattle.css_isa.specs.declared.code.Op.{Op}
use Rattle.css_isa.specs.Code.{Routine, Shape, Code, all_dimensions, call_of}
use Rattle.css_isa.specs.Cells.{cell_as}
use Rattle.css_isa.specs.Effects as effects
use Rattle.css_isa.specs.Effects.{Effect, effect}
use Rattle.css_isa.specs.Roles.{Role, Straight, Turning, Outward, Telling, Awaiting, Changing, Testing, Jumping, Branching, Calling, Submitting, Returning, role_of}

-- ---- states

-- a function that runs: its number, its frame's base, whether it was called as a task, and the mode in which it asks
pub record Activation : Type 0 where
  pub function : ℕ
  pub base : ℕ
  pub is_task : Bool
  pub mode : Mode

-- a function that called another one, the place at which it goes on, and its stack there but for the cell that it waits for
pub record Caller : Type 0 where
  pub activation : Activation
  pub place : ℕ
  pub stack : List ℕ

-- before the entry of a function, with its arguments, in a line; or inside one at an instruction's place, with the topmost cell
-- first and the nearest caller first
pub data State : Type 0 where
  Begin : (function : ℕ) (arguments : List ℕ) (line : ℕ) → State
  At : (a : Activation) (callers : List Caller) (place : ℕ) (stack : List ℕ) → State

-- the first function returns a cell, in a line, while its frame is still there; or the machine has no step
pub data Halt : Type 0 where
  Finished : (cell base line : ℕ) → Halt
  Stuck : Halt

-- a function that runs as it was entered
abbrev pub started : (function base : ℕ) (is_task : Bool) → Activation
started function base is_task = record { function = function; base = base; is_task = is_task; mode = Plain }

-- at the first instruction of a function over a frame at a base
abbrev pub inside : (function : ℕ) (is_task : Bool) (callers : List Caller) (base : ℕ) → State
inside function is_task callers base = At (started function base is_task) callers 0 []

-- with a cell on top
abbrev pub pushed : ℕ → State → State
pushed cell (Begin function arguments line) = Begin function arguments line
pushed cell (At a callers place stack) = At a callers place (cell ∷ stack)

-- ---- steps

-- what a step does at a state
pub data Step : Type 0 where
  -- goes on by itself
  Moves : (next : State) → Step
  -- asks something, in a mode and a line, and goes on with the reply as a value of the type on top
  Requests : (mode : Mode) (action : Action) (line : ℕ) (t : IntType) (next : State) → Step
  -- asks something, and goes on whatever the reply
  Notifies : (mode : Mode) (action : Action) (line : ℕ) (next : State) → Step
  -- is at fault
  Fails : (mode : Mode) (kind : FaultKind) (line : ℕ) → Step
  -- goes on in the one state where calls of tasks make tasks, and else in the other
  Tests : (begun other : State) → Step
  -- enters a function, called as a task or not, with its arguments, over these callers
  Enters : (function : ℕ) (f : Routine) (is_task : Bool) (arguments : List ℕ) (line : ℕ) (callers : List Caller) → Step
  -- leaves the frame of so many bytes at a base, of a function that was called as a task or not
  Leaves : (base size : ℕ) (is_task : Bool) (line : ℕ) (next : State) → Step
  -- calls a task: enters its body over these callers, or goes on behind the call, as the world replies
  Submits : (call : Call) (function : ℕ) (f : Routine) (arguments : List ℕ) (line : ℕ) (callers : List Caller) (next : State) → Step
  -- is over
  Halts : (halt : Halt) → Step

-- ---- the step at an instruction

-- with the topmost cell and those below it
abbrev pub on_top : List ℕ → (ℕ → List ℕ → Step) → Step
on_top [] go = Halts Stuck
on_top (a ∷ rest) go = go a rest

-- with so many of the topmost cells, the top last, and those below them
abbrev pub on_many : ℕ → List ℕ → (List ℕ → List ℕ → Step) → Step
on_many n stack go = if nat_le n (length stack) then go (reverse (take n stack)) (drop n stack) else Halts Stuck

-- with a function that may be missing
abbrev pub on_function : Option Routine → (Routine → Step) → Step
on_function None go = Halts Stuck
on_function (Some f) go = go f

-- with the shape of a task
abbrev pub on_task : Option Shape → (Shape → Step) → Step
on_task None go = Halts Stuck
on_task (Some s) go = go s

-- what a call gives: the cell with which the function returns, and 0 where it was a task's
abbrev pub given_back : (is_task : Bool) → ℕ → ℕ
given_back true cell = 0
given_back false cell = cell

-- inside a function at an instruction
module _ (code : Code) (a : Activation) (callers : List Caller) (line place : ℕ) where
  -- on to the next place, by what becomes of the cells
  abbrev pub worked : Effect → Step
  worked (effects.Gives cells) = Moves (At a callers (place + 1) cells)
  worked (effects.Asks action t cells) = Requests a.mode action line t (At a callers (place + 1) cells)
  worked (effects.Tells action cells) = Notifies a.mode action line (At a callers (place + 1) cells)
  worked (effects.Faults kind) = Fails a.mode kind line
  worked effects.Lacks = Halts Stuck

  -- the function as a caller that goes on at the next place, with these cells
  abbrev pub waiting : (rest : List ℕ) → Caller
  waiting rest = record { activation = a; place = place + 1; stack = rest }

  -- calls a function, or a task with its dimensions on top
  abbrev pub calling : (function : ℕ) → List ℕ → Step
  calling function stack =
      on_function (slice_get code.functions function) (λ f. on_many (length f.parameters) stack (λ arguments rest.
      Enters function f false arguments line (waiting rest ∷ callers)))

  abbrev pub submitting : (function : ℕ) → List ℕ → Step
  submitting function stack =
      on_function (slice_get code.functions function) (λ f. on_task f.task (λ s.
      on_many (all_dimensions s.arguments) stack (λ dimensions below. on_many (length f.parameters) below (λ arguments rest.
      Submits (call_of function f s arguments dimensions a.base) function f arguments line (waiting rest ∷ callers) (At a callers (place + 1) (0 ∷ rest))))))

  -- returns with a cell: to a caller, or from the first function
  abbrev pub returning : List Caller → Routine → ℕ → Step
  returning [] f cell = Halts (Finished cell a.base line)
  returning (c ∷ others) f cell =
      Leaves a.base f.frame a.is_task line (At c.activation others c.place (given_back a.is_task cell ∷ c.stack))

  abbrev pub act : Role → Op → List ℕ → Step
  act (Straight needed taken given) op stack = worked (effect a.base op stack)
  act Turning op stack = worked (effect a.base op stack)
  act (Outward taken given) op stack = worked (effect a.base op stack)
  act Telling op stack = worked (effect a.base op stack)
  act Awaiting op stack = worked (effect a.base op stack)
  act (Changing mode) op stack = Moves (At (record a { mode = mode }) callers (place + 1) stack)
  act Testing op stack = Tests (At a callers (place + 1) (1 ∷ stack)) (At a callers (place + 1) (0 ∷ stack))
  act (Jumping to) op stack = Moves (At a callers to stack)
  act (Branching to) op stack = on_top stack (λ cell rest. Moves (At a callers (if nat_eq cell 0 then to else place + 1) rest))
  act (Calling k) op stack = calling k stack
  act (Submitting k) op stack = submitting k stack
  act Returning op stack = on_top stack (λ cell rest. on_function (slice_get code.functions a.function) (λ f. returning callers f cell))

-- the step at an instruction that may be missing
abbrev pub at_instr : Code → Option Instr → Activation → List Caller → ℕ → List ℕ → Step
at_instr code None a callers place stack = Halts Stuck
at_instr code (Some i) a callers place stack = act code a callers i.line place (role_of i.op) i.op stack

-- the step at a state
abbrev pub step_of : Code → State → Step
step_of code (Begin k arguments line) = on_function (slice_get code.functions k) (λ f. Enters k f false arguments line [])
step_of code (At a callers place stack) =
    on_function (slice_get code.functions a.function) (λ f. at_instr code (slice_get f.body place) a callers place stack)

-- ---- in a world

-- stores a function's arguments at the front of its frame, each in 8 bytes
abbrev pub stores : World → (address : ℕ) → (parameters arguments : List ℕ) → ℕ → Tape → Outcome ℕ
stores w address (width ∷ parameters) (a ∷ arguments) line tape =
    then_do (ask w (Store (address % 2 ^ 32) (big_endian_bytes width a)) line tape) (λ r t. stores w (address + 8) parameters arguments line t)
stores w address [] arguments line tape = Goes 0 tape
stores w address (width ∷ parameters) [] line tape = Goes 0 tape

-- enters a function with its arguments, and gives its frame's base
abbrev pub entered : World → Routine → List ℕ → ℕ → Tape → Outcome ℕ
entered w f arguments line tape =
    then_do (ask w (Enter f.frame) line tape) (λ base t. then_do (stores w base f.parameters arguments line t) (λ r t'. Goes base t'))

-- the return of a task's body is the task's
abbrev pub task_returned : World → (is_task : Bool) → ℕ → Tape → Outcome ℕ
task_returned w true line tape = ask w Returns line tape
task_returned w false line tape = Goes 0 tape

-- leaves a function's frame
abbrev pub left : World → (base size : ℕ) → (is_task : Bool) → ℕ → Tape → Outcome ℕ
left w base size is_task line tape = then_do (ask w (Leave base size) line tape) (λ r t. task_returned w is_task line t)

-- in a world, where it goes on from a state like this, and ends like that
module _ {A : Type 0} (w : World) (on : State → Tape → Outcome A) (ends : Halt → Tape → Outcome A) where
  abbrev pub entering : (function : ℕ) → Routine → (is_task : Bool) → (arguments : List ℕ) → ℕ → List Caller → Tape → Outcome A
  entering function f is_task arguments line callers tape =
      then_do (entered w f arguments line tape) (λ base t. on (inside function is_task callers base) t)

  -- behind a task's call, by the world's reply: the body is run, or it isn't, and the call returns at once
  abbrev pub behind_call : (reply : ℕ) → (function : ℕ) → Routine → (arguments : List ℕ) → ℕ → List Caller → (next : State) → Tape → Outcome A
  behind_call zero function f arguments line callers next tape = then_do (ask w Returns line tape) (λ r t. on next t)
  behind_call (suc reply) function f arguments line callers next tape = entering function f true arguments line callers tape

  abbrev pub done : Step → Tape → Outcome A
  done (Moves next) tape = on next tape
  done (Requests mode action line t next) tape = then_do (ask_in w mode action line tape) (λ r t'. on (pushed (cell_as t r) next) t')
  done (Notifies mode action line next) tape = then_do (ask_in w mode action line tape) (λ r t. on next t)
  done (Fails mode kind line) tape = fault_in w mode kind line tape
  done (Tests begun other) tape = if makes_tasks tape then on begun tape else on other tape
  done (Enters function f is_task arguments line callers) tape = entering function f is_task arguments line callers tape
  done (Leaves base size is_task line next) tape = then_do (left w base size is_task line tape) (λ r t. on next t)
  done (Submits call function f arguments line callers next) tape =
      then_do (ask w (Calls call) line tape) (λ r t. behind_call r function f arguments line callers next t)
  done (Halts halt) tape = ends halt tape
