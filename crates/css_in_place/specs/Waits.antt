-- A machine whose caller waits for a task's body.
use Rattle.std.specs.Prelude.{◌≡◌, suc, ◌+◌, ℕ, List, ◌∷◌, Option, Some, None}
use Rattle.css_semantics.specs.Dialogue.{Tape, World, Outcome, Goes, Stops, then_do}
use Rattle.css_vm.specs.Code.{Routine, Code}
use Rattle.css_vm.specs.Machine.{Activation, Caller, At, Halt, Stuck, go_on, exec}
use Rattle.css_vm.specs.Events.{behind_call}
use Rattle.css_in_place.specs.InPlace.{alone_from}

-- What comes of a machine whose caller waits for a body, by the body's dialogue: where that returns, so many steps lead back to the
-- caller, and else the machine stops, or is stuck, as it does.
abbrev pub ComesBack : (run : ℕ → Outcome Halt) → (back : ℕ → Tape → Outcome Halt) → ℕ → Outcome (Option ℕ) → Type 0
ComesBack run back n (Goes (Some cell) t) = (steps : ℕ) × ((more : ℕ) → run (steps + more) ≡ back more t)
ComesBack run back n (Goes None t) = run n ≡ Goes Stuck t
ComesBack run back n (Stops why t) = run n ≡ Stops why t

-- behind the item of a task's call, where the world runs the body, a machine that is owed an answer
abbrev pub waiting : World → Code → (a : Activation) → (callers : List Caller) → (line place : ℕ) → (k : ℕ) → Routine → (arguments : List ℕ) → (reply owed : ℕ) → (rest : List ℕ) → Tape → ℕ → Outcome Halt
waiting w code a callers line place k f arguments reply owed rest tape m =
    then_do (behind_call w line k f arguments (suc reply) (At a callers place (owed ∷ rest)) tape) (go_on (exec w code m))

-- behind the return, with 0 in the place of the cell that it is owed
abbrev pub back : World → Code → (a : Activation) → (callers : List Caller) → (place : ℕ) → (rest : List ℕ) → ℕ → Tape → Outcome Halt
back w code a callers place rest more t = exec w code more (At a callers place (0 ∷ rest)) t

-- Where the world runs a body at a task's call, the machine has the body's dialogue, and goes on behind the call.
abbrev pub WaitsFor : World → Code → (a : Activation) → (callers : List Caller) → (line place : ℕ) → (k : ℕ) → Routine → (arguments : List ℕ) → (reply owed : ℕ) → (rest : List ℕ) → ℕ → Tape → Type 0
WaitsFor w code a callers line place k f arguments reply owed rest n tape =
    ComesBack (waiting w code a callers line place k f arguments reply owed rest tape) (back w code a callers place rest) n (alone_from w code k arguments line (suc n) tape)
