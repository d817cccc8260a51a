-- Where a function's statements lead: to a place behind them, or out of the function.
use Rattle.std.proofs.Common.{◌≡◌, ℕ, suc, ◌+◌, ℤ, pos, Bool, true, false, List, [], ◌∷◌, refl, ap, ◌∙◌, subst}
use Rattle.css_semantics.specs.Dialogue.{Leave, Tape, World, Outcome, Goes, then_do, ask}
use Rattle.css_vm.specs.declared.code.Op.TheVariants as ops
use Rattle.css_vm.specs.Code.{Routine, Code}
use Rattle.css_vm.specs.Cells.{cell_of}
use Rattle.css_vm.specs.Machine.{Halt, Activation, Caller, At, On, on_function, task_returned, given_back, returning, go_on, exec}
use Rattle.css_small_code.specs.Code.{end_code}
use Rattle.css_small_code.specs.Meaning.{Flow, Next, Returned, Exit, exit_by}
use Rattle.css_small_code.proofs.Runs.{Run, Landing, Runs, runs_done, runs_step}
use Rattle.css_small_code.proofs.Stands.{Stands}
use Rattle.css_small_code.proofs.Steps.{Running, state, OpAt, one_step, runs_quiet}

module _ (w : World) (code : Code) (function : ℕ) (is_task : Bool) (callers : List Caller) (f : Routine) where
  -- the function's activation with a frame at a base
  abbrev pub activation_at : ℕ → Activation
  activation_at base = record { function = function; base = base; is_task = is_task }

  -- behind its return it leads to a caller, or to the machine's end
  abbrev pub Exiting : Landing Halt Exit
  Exiting k exit t =
      then_do (returning w code (activation_at exit.base) callers exit.line 0 callers f (cell_of exit.value) t) (go_on (exec w code k))

module _ (w : World) (code : Code) (a : Activation) (callers : List Caller) (line place : ℕ) (f : Routine) (cell : ℕ) (t : Tape) where
  -- a return is the same at each place
  returned_at : (c : Caller) (others : List Caller) (is_task : Bool) →
      then_do (ask w (Leave a.base f.frame) line t) (λ r t'. then_do (task_returned w code a callers line place is_task t') (λ r' t''. Goes (On (At c.activation others c.place (given_back a.is_task cell ∷ c.stack))) t''))
      ≡ then_do (ask w (Leave a.base f.frame) line t) (λ r t'. then_do (task_returned w code a callers line 0 is_task t') (λ r' t''. Goes (On (At c.activation others c.place (given_back a.is_task cell ∷ c.stack))) t''))
  returned_at c others true = refl
  returned_at c others false = refl

  returning_at : (cs : List Caller) → returning w code a callers line place cs f cell t ≡ returning w code a callers line 0 cs f cell t
  returning_at [] = refl
  returning_at (c ∷ others) = returned_at c others a.is_task

module _ (w : World) (code : Code) (here : Running code) where
  -- the function is left in a line with a value
  abbrev pub Left : ℕ → ℤ → ℕ → Tape → Outcome Halt
  Left k v line t =
      then_do (returning w code here.activation here.callers line 0 here.callers here.routine (cell_of v) t) (go_on (exec w code k))

  -- the step at a return
  pub ret_step : (v : ℤ) (line place : ℕ) (stack : List ℕ) (t : Tape) → OpAt w code here line place ops.Ret → (k : ℕ) → exec w code (suc k) (state w code here place (cell_of v ∷ stack)) t ≡ Left k v line t
  ret_step v line place stack t h k =
      let a = here.activation in
      let callers = here.callers in
      let does = ap (λ g. on_function g t (λ f. returning w code a callers line place callers f (cell_of v) t)) here.found ∙ returning_at w code a callers line place here.routine (cell_of v) t callers in
      one_step w code here line ops.Ret place (cell_of v ∷ stack) t (returning w code a callers line 0 callers here.routine (cell_of v) t) h does k

  -- behind a statement the machine is at a place, or it has left the function
  abbrev pub Flowing : ℕ → List ℕ → Landing Halt Flow
  Flowing place stack k Next t = exec w code k (state w code here place stack) t
  Flowing place stack k (Returned v line) t = Left k v line t

  -- the place behind, under another name
  pub flow_at : {n : ℕ} {from : Run Halt} {stack : List ℕ} {o : Outcome Flow} (place place' : ℕ) → place ≡ place' → Runs n from (Flowing place stack) o → Runs n from (Flowing place' stack) o
  flow_at {n = n} {from = from} {stack = stack} {o = o} place place' e r = subst (λ p. Runs n from (Flowing p stack) o) e r

-- behind its body a function is left, by a return or at its end
pub leaves : (w : World) (code : Code) (here : Running code) (n : ℕ) (flow : Flow) (end place : ℕ) (stack : List ℕ) (t : Tape) → Stands here.routine.body place (end_code end) →
    Runs n (λ k. Flowing w code here place stack k flow t) (Exiting w code here.activation.function here.activation.is_task here.callers here.routine) (Goes (exit_by here.activation.base end flow) t)
leaves w code here n Next end place stack t h =
    let exits = Exiting w code here.activation.function here.activation.is_task here.callers here.routine in
    runs_quiet w code here end (ops.Push (pos 0)) (place + 1) (cell_of (pos 0) ∷ stack) h.0 refl
    (runs_step (λ k. Left w code here k (pos 0) end t) (ret_step w code here (pos 0) end (place + 1) stack t h.1.0) (runs_done n exits (exit_by here.activation.base end Next) t))
leaves w code here n (Returned v line) end place stack t h =
    runs_done n (Exiting w code here.activation.function here.activation.is_task here.callers here.routine) (exit_by here.activation.base end (Returned v line)) t
