-- Whole runs keep what asking, binding and going on keep.
use Rattle.std.proofs.Common.{◌≡◌, ℕ, zero, suc, ◌+◌, ◌%◌, ◌^◌, Bool, true, false, List, [], ◌∷◌, refl}
use Rattle.std.proofs.Math.Nat.{zero-add, suc-add}
use Rattle.css_semantics.specs.Dialogue.{Action, Enter, Leave, Store, Calls, Returns, Tape, World, Outcome, Goes, Stops, Tired, Mode, Plain}
use Rattle.css_semantics.specs.Memory.{big_endian_bytes}
use Rattle.css_isa.specs.Code.{Routine, Code}
use Rattle.css_isa.specs.Steps.{State, Halt, Step, Moves, Requests, Notifies, Fails, Tests, Enters, Leaves, Submits, Halts, Caller, inside, stores, entered, left, entering, behind_call, done, step_of}
use Rattle.css_isa.specs.Machine.{exec}
use Rattle.css_isa.specs.Walks.{Relation, IsKept, MayEnter, Keeps, IsClosed}

module _ (R : Relation) (May : Mode → Action → Type 0) (w w' : World) (kept : IsKept R May w w') where
  pub kept_stores : (address : ℕ) (parameters arguments : List ℕ) (line : ℕ) → ((address : ℕ) (bytes : List ℕ) → May Plain (Store address bytes)) → R ℕ (stores w address parameters arguments line) (stores w' address parameters arguments line)
  kept_stores address [] arguments line may = kept.goes 0
  kept_stores address (width ∷ parameters) [] line may = kept.goes 0
  kept_stores address (width ∷ parameters) (a ∷ arguments) line may =
      kept.binds (kept.asks Plain (Store (address % 2 ^ 32) (big_endian_bytes width a)) line (may (address % 2 ^ 32) (big_endian_bytes width a)))
      (λ r. kept_stores (address + 8) parameters arguments line may)

  pub kept_entered : (f : Routine) (arguments : List ℕ) (line : ℕ) → MayEnter May f.frame → R ℕ (entered w f arguments line) (entered w' f arguments line)
  kept_entered f arguments line may =
      kept.binds (kept.asks Plain (Enter f.frame) line may.enters) (λ base. kept.binds (kept_stores base f.parameters arguments line may.stores) (λ r. kept.goes base))

  pub kept_left : (base size : ℕ) (is_task : Bool) (line : ℕ) → May Plain (Leave base size) → (is_task ≡ true → May Plain Returns) → R ℕ (left w base size is_task line) (left w' base size is_task line)
  kept_left base size true line leaves returns = kept.binds (kept.asks Plain (Leave base size) line leaves) (λ r. kept.asks Plain Returns line (returns refl))
  kept_left base size false line leaves returns = kept.binds (kept.asks Plain (Leave base size) line leaves) (λ r. kept.goes 0)

  module _ (Good : State → Type 0) {A : Type 0} (on on' : State → Tape → Outcome A) (ends ends' : Halt → Tape → Outcome A) (goes_on : (s : State) → Good s → R A (on s) (on' s)) (ends_too : (halt : Halt) → R A (ends halt) (ends' halt)) where
    kept_entering : (function : ℕ) (f : Routine) (is_task : Bool) (arguments : List ℕ) (line : ℕ) (callers : List Caller) → MayEnter May f.frame → ((base : ℕ) → Good (inside function is_task callers base))
        → R A (entering w on ends function f is_task arguments line callers) (entering w' on' ends' function f is_task arguments line callers)
    kept_entering function f is_task arguments line callers may good =
        kept.binds (kept_entered f arguments line may) (λ base. goes_on (inside function is_task callers base) (good base))

    kept_behind_call : (reply function : ℕ) (f : Routine) (arguments : List ℕ) (line : ℕ) (callers : List Caller) (next : State) → May Plain Returns → MayEnter May f.frame → ((base : ℕ) → Good (inside function true callers base)) → Good next
        → R A (behind_call w on ends reply function f arguments line callers next) (behind_call w' on' ends' reply function f arguments line callers next)
    kept_behind_call zero function f arguments line callers next returns may good good_next = kept.binds (kept.asks Plain Returns line returns) (λ r. goes_on next good_next)
    kept_behind_call (suc reply) function f arguments line callers next returns may good good_next = kept_entering function f true arguments line callers may good

    -- what one step does
    pub kept_done : (s : Step) → Keeps May Good s → R A (done w on ends s) (done w' on' ends' s)
    kept_done (Moves next) good = goes_on next good
    kept_done (Requests mode action line t next) good = kept.binds (kept.asks mode action line good.0) (λ r. goes_on _ (good.1 r))
    kept_done (Notifies mode action line next) good = kept.binds (kept.asks mode action line good.0) (λ r. goes_on next good.1)
    kept_done (Fails mode kind line) good = kept.faults A mode kind line good
    kept_done (Tests begun other) good = kept.cases (goes_on begun good.0) (goes_on other good.1)
    kept_done (Enters function f is_task arguments line callers) good = kept_entering function f is_task arguments line callers good.0 good.1
    kept_done (Leaves base size is_task line next) good = kept.binds (kept_left base size is_task line good.0 good.1) (λ r. goes_on next good.2)
    kept_done (Submits call function f arguments line callers next) good =
        kept.binds (kept.asks Plain (Calls call) line good.0) (λ r. kept_behind_call r function f arguments line callers next good.1 good.2 good.3 good.4)
    kept_done (Halts halt) good = ends_too halt

  module _ (code : Code) (Good : State → Type 0) (closed : IsClosed code May Good) where
    -- a whole run, in the second world with so many steps more
    pub kept_exec : (n m : ℕ) → ((s : State) → Good s → R Halt (Stops Tired) (exec w' code m s)) → (s : State) → Good s → R Halt (exec w code n s) (exec w' code (n + m) s)
    kept_exec zero m spent s good = rw (zero-add m) (spent s good)
    kept_exec (suc n) m spent s good = rw (suc-add n m) (kept_done Good (exec w code n) (exec w' code (n + m)) Goes Goes (kept_exec n m spent) (λ halt. kept.goes halt) (step_of code s) (closed s good))
