-- The stack machine's dialogue with a world, by its step table.
use Rattle.std.specs.Prelude.{ℕ, ℤ, zero, suc, List, [], ◌∷◌, Option, Some, None, slice_get, if◌then◌else◌}
use Rattle.css_semantics.specs.Dialogue.{Leave, Returns, Finish, End, Tape, World, Outcome, Goes, Stops, Tired, then_do, ask}
use Rattle.css_semantics.specs.Tasks.{is_started}
use Rattle.css_isa.specs.Code.{Routine, Code, first_line}
use Rattle.css_isa.specs.Cells.{int_of}
use Rattle.css_isa.specs.Steps.{State, Begin, At, Halt, Finished, Stuck, step_of, done}

-- at most n steps
abbrev pub exec : World → Code → ℕ → State → Tape → Outcome Halt
exec w code zero s tape = Stops Tired tape
exec w code (suc n) s tape = done w (exec w code n) Goes (step_of code s) tape

-- ---- one step alone

-- where a step leads
pub data After : Type 0 where
  Ended : (halt : Halt) → After
  On : (state : State) → After

abbrev pub step : World → Code → State → Tape → Outcome After
step w code s tape = done w (λ s' t. Goes (On s') t) (λ halt t. Goes (Ended halt) t) (step_of code s) tape

abbrev pub go_on : (State → Tape → Outcome Halt) → After → Tape → Outcome Halt
go_on next (Ended halt) tape = Goes halt tape
go_on next (On s) tape = next s tape

-- ---- whole dialogues

-- the frame of a function, 0 where there is none
abbrev pub frame_of : Option Routine → ℕ
frame_of None = 0
frame_of (Some f) = f.frame

-- main's entry has the line of its first instruction
abbrev pub entry_line : Option Routine → ℕ
entry_line None = 0
entry_line (Some f) = first_line f.body

-- where tasks are made, main acts as finish
abbrev pub finished : World → ℕ → Tape → Outcome ℕ
finished w line tape = if is_started tape then ask w Finish line tape else Goes 0 tape

-- main leaves its frame and ends with its result; none where the machine was stuck
abbrev pub main_ends : World → (frame : ℕ) → Halt → Tape → Outcome (Option ℤ)
main_ends w frame (Finished cell base line) tape =
    then_do (finished w line tape) (λ r t. then_do (ask w (Leave base frame) line t) (λ r' t'.
    then_do (ask w (End (int_of cell)) line t') (λ r'' t''. Goes (Some (int_of cell)) t'')))
main_ends w frame Stuck tape = Goes None tape

-- main's dialogue, from its entry
abbrev pub target : World → Code → ℕ → Outcome (Option ℤ)
target w code n =
    let f = slice_get code.functions code.main in
    then_do (exec w code n (Begin code.main [] (entry_line f)) []) (main_ends w (frame_of f))

-- a task's body alone leaves its frame and returns
abbrev pub body_ends : World → (frame : ℕ) → Halt → Tape → Outcome (Option ℕ)
body_ends w frame (Finished cell base line) tape =
    then_do (ask w (Leave base frame) line tape) (λ r t. then_do (ask w Returns line t) (λ r' t'. Goes (Some cell) t'))
body_ends w frame Stuck tape = Goes None tape

-- the dialogue of a function alone as a task's body, with its arguments, from its entry in a line
abbrev pub alone : World → Code → (function : ℕ) → (arguments : List ℕ) → (line : ℕ) → ℕ → Outcome (Option ℕ)
alone w code function arguments line n =
    then_do (exec w code n (Begin function arguments line) []) (body_ends w (frame_of (slice_get code.functions function)))

-- ---- answers

-- a machine that is owed an answer has a cell for it on top
abbrev pub IsOwed : State → Type 0
IsOwed (Begin function arguments line) = ⊥
IsOwed (At a callers place []) = ⊥
IsOwed (At a callers place (x ∷ rest)) = Unit {0}

-- the answer takes that cell's place
abbrev pub answered : ℕ → State → State
answered value (Begin function arguments line) = Begin function arguments line
answered value (At a callers place []) = At a callers place []
answered value (At a callers place (x ∷ rest)) = At a callers place (value ∷ rest)
