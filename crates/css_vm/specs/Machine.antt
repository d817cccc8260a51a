-- The stack machine's dialogue with a world, by its step table.
use Rattle.std.specs.Prelude.{ℕ, ℤ, zero, suc, ◌+◌, ◌%◌, ◌^◌, Bool, true, false, List, [], ◌∷◌, length, take, drop, reverse, Option, Some, None, slice_get, nat_eq, nat_le, if◌then◌else◌, bit_and, bit_or, bit_xor}
use Rattle.css_base.specs.declared.ending.FaultKind.TheVariants.{DivideByZero}
use Rattle.css_semantics.specs.Dialogue.{Enter, Turn, Leave, Load, Store, Out, Calls, Returns, Start, Finish, Barrier, End, Tape, World, Outcome, Goes, Stops, Tired, then_do, ask, fault}
use Rattle.css_semantics.specs.Memory.{big_endian_bytes}
use Rattle.css_semantics.specs.Tasks.{is_started}
use Rattle.css_vm.specs.declared.code.Instr.{Instr}
use Rattle.css_vm.specs.declared.code.Op.{Op}
use Rattle.css_vm.specs.declared.code.Op.TheVariants as ops
use Rattle.css_vm.specs.declared.code.Narrow.TheVariants as narrows
use Rattle.css_vm.specs.declared.code.MarkKind.TheVariants as marks
use Rattle.css_vm.specs.declared.code.Conversion.TheVariants as conversions
use Rattle.css_vm.specs.Code.{Routine, Shape, Code, first_line, all_dimensions, call_of}
use Rattle.css_vm.specs.Cells.{cell_of, int_of, truth, sum_of, difference_of, product_of, negative_of, complement_of, quotient_of, remainder_of, shifted_left, shifted_right, are_equal, differ, is_below, narrowed}

-- a function that runs: its number, its frame's base, and whether it was called as a task
pub record Activation : Type 0 where
  pub function : ℕ
  pub base : ℕ
  pub is_task : Bool

-- a function that called another one, the place at which it goes on, and its stack there but for the cell that it waits for
pub record Caller : Type 0 where
  pub activation : Activation
  pub place : ℕ
  pub stack : List ℕ

-- before the entry of a function, with its arguments, in a line; or inside one at an instruction's place, with the topmost cell
-- first and the nearest caller first
pub data State : Type 0 where
  Begin : (function : ℕ) (arguments : List ℕ) (line : ℕ) → State
  At : (a : Activation) (callers : List Caller) (place : ℕ) (stack : List ℕ) → State

-- the first function returns a cell, in a line, while its frame is still there; or the machine has no step
pub data Halt : Type 0 where
  Finished : (cell base line : ℕ) → Halt
  Stuck : Halt

-- where a step leads
pub data After : Type 0 where
  Ended : (halt : Halt) → After
  On : (state : State) → After

abbrev pub ended : Halt → Tape → Outcome After
ended halt tape = Goes (Ended halt) tape

abbrev pub stuck : Tape → Outcome After
stuck tape = ended Stuck tape

-- with the topmost cell and those below it
abbrev pub on_one : List ℕ → Tape → (ℕ → List ℕ → Outcome After) → Outcome After
on_one [] tape go = stuck tape
on_one (a ∷ rest) tape go = go a rest

-- with the two topmost cells, the top last, and those below them
abbrev pub on_two : List ℕ → Tape → (ℕ → ℕ → List ℕ → Outcome After) → Outcome After
on_two [] tape go = stuck tape
on_two (b ∷ []) tape go = stuck tape
on_two (b ∷ a ∷ rest) tape go = go a b rest

-- with a cell that may be missing
abbrev pub on_cell : Option ℕ → Tape → (ℕ → Outcome After) → Outcome After
on_cell None tape go = stuck tape
on_cell (Some a) tape go = go a

-- with so many of the topmost cells, the top last, and those below them
abbrev pub on_many : ℕ → List ℕ → Tape → (List ℕ → List ℕ → Outcome After) → Outcome After
on_many n stack tape go = if nat_le n (length stack) then go (reverse (take n stack)) (drop n stack) else stuck tape

-- with a function that may be missing
abbrev pub on_function : Option Routine → Tape → (Routine → Outcome After) → Outcome After
on_function None tape go = stuck tape
on_function (Some f) tape go = go f

-- with the shape of a task
abbrev pub on_task : Option Shape → Tape → (Shape → Outcome After) → Outcome After
on_task None tape go = stuck tape
on_task (Some s) tape go = go s

-- what a call gives: the cell with which the function returns, and 0 where it was a task's
abbrev pub given_back : (is_task : Bool) → ℕ → ℕ
given_back true cell = 0
given_back false cell = cell

-- stores a function's arguments at the front of its frame, each in 8 bytes
abbrev pub stores : World → (address : ℕ) → (parameters arguments : List ℕ) → ℕ → Tape → Outcome ℕ
stores w address (width ∷ parameters) (a ∷ arguments) line tape =
    then_do (ask w (Store (address % 2 ^ 32) (big_endian_bytes width a)) line tape) (λ r t. stores w (address + 8) parameters arguments line t)
stores w address [] arguments line tape = Goes 0 tape
stores w address (width ∷ parameters) [] line tape = Goes 0 tape

-- enters a function with its arguments, and gives its frame's base
abbrev pub entered : World → Routine → List ℕ → ℕ → Tape → Outcome ℕ
entered w f arguments line tape =
    then_do (ask w (Enter f.frame) line tape) (λ base t. then_do (stores w base f.parameters arguments line t) (λ r t'. Goes base t'))

-- inside a function at an instruction
module _ (w : World) (code : Code) (a : Activation) (callers : List Caller) (line place : ℕ) where
  -- on to the next place with this stack
  abbrev pub next : List ℕ → Tape → Outcome After
  next stack tape = Goes (On (At a callers (place + 1) stack)) tape

  -- one cell for one
  abbrev pub one : (ℕ → ℕ) → List ℕ → Tape → Outcome After
  one g stack tape = on_one stack tape (λ x rest. next (g x ∷ rest) tape)

  -- one cell for two
  abbrev pub two : (ℕ → ℕ → ℕ) → List ℕ → Tape → Outcome After
  two g stack tape = on_two stack tape (λ x y rest. next (g x y ∷ rest) tape)

  -- one cell for two, of which the second isn't 0
  abbrev pub division : (ℕ → ℕ → ℕ) → List ℕ → Tape → Outcome After
  division g stack tape =
      on_two stack tape (λ x y rest. if nat_eq y 0 then fault DivideByZero line tape else next (g x y ∷ rest) tape)

  -- calls a function, as a task or not, and leaves these cells
  abbrev pub calling : (function : ℕ) → Routine → (is_task : Bool) → (arguments rest : List ℕ) → Tape → Outcome After
  calling function f is_task arguments rest tape =
      then_do (entered w f arguments line tape) (λ base t.
      Goes (On (At (record { function = function; base = base; is_task = is_task }) (record { activation = a; place = place + 1; stack = rest } ∷ callers) 0 [])) t)

  -- behind a task's call, by the world's reply: the body is run, or it isn't, and the call returns at once
  abbrev pub called : (function : ℕ) → Routine → (arguments rest : List ℕ) → ℕ → Tape → Outcome After
  called function f arguments rest zero tape = then_do (ask w Returns line tape) (λ r t. next (0 ∷ rest) t)
  called function f arguments rest (suc reply) tape = calling function f true arguments rest tape

  -- the return of a task's body is the task's
  abbrev pub task_returned : (is_task : Bool) → Tape → Outcome ℕ
  task_returned true tape = ask w Returns line tape
  task_returned false tape = Goes 0 tape

  -- returns with a cell: to a caller, or from the first function
  abbrev pub returning : List Caller → Routine → ℕ → Tape → Outcome After
  returning [] f cell tape = ended (Finished cell a.base line) tape
  returning (c ∷ others) f cell tape =
      then_do (ask w (Leave a.base f.frame) line tape) (λ r t. then_do (task_returned a.is_task t) (λ r' t'.
      Goes (On (At c.activation others c.place (given_back a.is_task cell ∷ c.stack))) t'))

  abbrev pub effect : Op → List ℕ → Tape → Outcome After
  effect (ops.Push v) stack tape = next (cell_of v ∷ stack) tape
  effect ops.Drop stack tape = on_one stack tape (λ x rest. next rest tape)
  effect (ops.Dup n) stack tape = on_cell (slice_get stack n) tape (λ x. next (x ∷ stack) tape)
  effect ops.Swap stack tape = on_two stack tape (λ x y rest. next (x ∷ y ∷ rest) tape)
  effect (ops.Frame k) stack tape = next ((a.base + k) ∷ stack) tape
  effect ops.Load32u stack tape =
      on_one stack tape (λ address rest. then_do (ask w (Load (address % 2 ^ 32) 4) line tape) (λ r t. next (narrowed narrows.U32 r ∷ rest) t))
  effect ops.Load32s stack tape =
      on_one stack tape (λ address rest. then_do (ask w (Load (address % 2 ^ 32) 4) line tape) (λ r t. next (narrowed narrows.S32 r ∷ rest) t))
  effect ops.Store32 stack tape =
      on_two stack tape (λ address v rest. then_do (ask w (Store (address % 2 ^ 32) (big_endian_bytes 4 v)) line tape) (λ r t. next (v ∷ rest) t))
  effect ops.Add stack tape = two sum_of stack tape
  effect ops.Sub stack tape = two difference_of stack tape
  effect ops.Mul stack tape = two product_of stack tape
  effect ops.And stack tape = two bit_and stack tape
  effect ops.Or stack tape = two bit_or stack tape
  effect ops.Xor stack tape = two bit_xor stack tape
  effect ops.Neg stack tape = one negative_of stack tape
  effect ops.Not stack tape = one complement_of stack tape
  effect ops.Divs stack tape = division quotient_of stack tape
  effect ops.Rems stack tape = division remainder_of stack tape
  effect (ops.Shl n) stack tape = two (shifted_left n) stack tape
  effect (ops.Shrs n) stack tape = two (shifted_right n) stack tape
  effect ops.Eq stack tape = two are_equal stack tape
  effect ops.Ne stack tape = two differ stack tape
  effect ops.Lts stack tape = two is_below stack tape
  effect (ops.Conv t) stack tape = one (narrowed t) stack tape
  effect (ops.Jump to) stack tape = Goes (On (At a callers to stack)) tape
  effect (ops.Jumpz to) stack tape =
      on_one stack tape (λ x rest. if nat_eq x 0 then Goes (On (At a callers to rest)) tape else next rest tape)
  effect (ops.Call k) stack tape =
      on_function (slice_get code.functions k) tape (λ f. on_many (length f.parameters) stack tape (λ arguments rest. calling k f false arguments rest tape))
  effect (ops.Submit k) stack tape =
      on_function (slice_get code.functions k) tape (λ f. on_task f.task tape (λ s.
      on_many (all_dimensions s.arguments) stack tape (λ dimensions below. on_many (length f.parameters) below tape (λ arguments rest.
      then_do (ask w (Calls (call_of k f s arguments dimensions a.base)) line tape) (λ r t. called k f arguments rest r t)))))
  effect (ops.Mark marks.Start) stack tape = then_do (ask w Start line tape) (λ r t. next stack t)
  effect (ops.Mark marks.Finish) stack tape = then_do (ask w Finish line tape) (λ r t. next stack t)
  effect (ops.Mark marks.Barrier) stack tape = then_do (ask w Barrier line tape) (λ r t. next stack t)
  effect (ops.Mark marks.Started) stack tape = next (truth (is_started tape) ∷ stack) tape
  effect ops.Turn stack tape = then_do (ask w Turn line tape) (λ r t. next stack t)
  effect (ops.Out conversions.Char) stack tape =
      on_one stack tape (λ x rest. then_do (ask w (Out (x % 256 ∷ [])) line tape) (λ r t. next (r ∷ rest) t))
  effect ops.Ret stack tape =
      on_one stack tape (λ x rest. on_function (slice_get code.functions a.function) tape (λ f. returning callers f x tape))

-- ---- steps

-- the step at an instruction
abbrev pub at_instr : World → Code → Option Instr → Activation → List Caller → ℕ → List ℕ → Tape → Outcome After
at_instr w code None a callers place stack tape = stuck tape
at_instr w code (Some i) a callers place stack tape = effect w code a callers i.line place i.op stack tape

-- the entry of the first function
abbrev pub beginning : World → (function : ℕ) → Routine → List ℕ → ℕ → Tape → Outcome After
beginning w function f arguments line tape =
    then_do (entered w f arguments line tape) (λ base t. Goes (On (At (record { function = function; base = base; is_task = false }) [] 0 [])) t)

abbrev pub step : World → Code → State → Tape → Outcome After
step w code (Begin k arguments line) tape =
    on_function (slice_get code.functions k) tape (λ f. beginning w k f arguments line tape)
step w code (At a callers place stack) tape =
    on_function (slice_get code.functions a.function) tape (λ f. at_instr w code (slice_get f.body place) a callers place stack tape)

abbrev pub go_on : (State → Tape → Outcome Halt) → After → Tape → Outcome Halt
go_on next (Ended halt) tape = Goes halt tape
go_on next (On s) tape = next s tape

-- at most n steps
abbrev pub exec : World → Code → ℕ → State → Tape → Outcome Halt
exec w code zero s tape = Stops Tired tape
exec w code (suc n) s tape = then_do (step w code s tape) (go_on (exec w code n))

-- ---- whole dialogues

-- the frame of a function, 0 where there is none
abbrev pub frame_of : Option Routine → ℕ
frame_of None = 0
frame_of (Some f) = f.frame

-- main's entry has the line of its first instruction
abbrev pub entry_line : Option Routine → ℕ
entry_line None = 0
entry_line (Some f) = first_line f.body

-- where tasks are made, main acts as finish
abbrev pub finished : World → ℕ → Tape → Outcome ℕ
finished w line tape = if is_started tape then ask w Finish line tape else Goes 0 tape

-- main leaves its frame and ends with its result; none where the machine was stuck
abbrev pub main_ends : World → (frame : ℕ) → Halt → Tape → Outcome (Option ℤ)
main_ends w frame (Finished cell base line) tape =
    then_do (finished w line tape) (λ r t. then_do (ask w (Leave base frame) line t) (λ r' t'.
    then_do (ask w (End (int_of cell)) line t') (λ r'' t''. Goes (Some (int_of cell)) t'')))
main_ends w frame Stuck tape = Goes None tape

-- main's dialogue, from its entry
abbrev pub target : World → Code → ℕ → Outcome (Option ℤ)
target w code n =
    let f = slice_get code.functions code.main in
    then_do (exec w code n (Begin code.main [] (entry_line f)) []) (main_ends w (frame_of f))

-- a task's body alone leaves its frame and returns
abbrev pub body_ends : World → (frame : ℕ) → Halt → Tape → Outcome (Option ℕ)
body_ends w frame (Finished cell base line) tape =
    then_do (ask w (Leave base frame) line tape) (λ r t. then_do (ask w Returns line t) (λ r' t'. Goes (Some cell) t'))
body_ends w frame Stuck tape = Goes None tape

-- the dialogue of a function alone as a task's body, with its arguments, from its entry in a line
abbrev pub alone : World → Code → (function : ℕ) → (arguments : List ℕ) → (line : ℕ) → ℕ → Outcome (Option ℕ)
alone w code function arguments line n =
    then_do (exec w code n (Begin function arguments line) []) (body_ends w (frame_of (slice_get code.functions function)))

-- ---- answers

-- a machine that is owed an answer has a cell for it on top
abbrev pub IsOwed : State → Type 0
IsOwed (Begin function arguments line) = ⊥
IsOwed (At a callers place []) = ⊥
IsOwed (At a callers place (x ∷ rest)) = Unit {0}

-- the answer takes that cell's place
abbrev pub answered : ℕ → State → State
answered value (Begin function arguments line) = Begin function arguments line
answered value (At a callers place []) = At a callers place []
answered value (At a callers place (x ∷ rest)) = At a callers place (value ∷ rest)
