-- Steps of the machine at an instruction, in a function that runs.
use Rattle.std.proofs.Common.{◌≡◌, ℕ, suc, ℤ, List, ◌∷◌, Some, refl, ap, ◌∙◌, subst}
use Rattle.std.specs.Prelude.{slice_get}
use Rattle.css_semantics.specs.Dialogue.{Tape, World, Outcome, Goes, then_do}
use Rattle.css_vm.specs.declared.code.Op.{Op}
use Rattle.css_vm.specs.Code.{Routine, Code}
use Rattle.css_vm.specs.Cells.{cell_of}
use Rattle.css_vm.specs.Machine.{Halt, Activation, Caller, State, At, After, On, on_function, effect, at_instr, go_on, exec}
use Rattle.css_small_code.proofs.Runs.{Run, Landing, Runs, runs_step, runs_asks, then_assoc}

-- a function of a code that runs: its activation, its callers, and the function itself
pub record Running (code : Code) : Type 0 where
  pub activation : Activation
  pub callers : List Caller
  pub routine : Routine
  pub found : slice_get code.functions activation.function ≡ Some routine

module _ (w : World) (code : Code) (here : Running code) where
  -- at a place of it, with a stack
  abbrev pub state : ℕ → List ℕ → State
  state place stack = At here.activation here.callers place stack

  -- from this place, with this stack
  abbrev pub From : ℕ → List ℕ → Tape → Run Halt
  From place stack t k = exec w code k (state place stack) t

  -- at this place, with the value's cell on this stack
  abbrev pub Value : ℕ → List ℕ → Landing Halt ℤ
  Value place stack k v t = exec w code k (state place (cell_of v ∷ stack)) t

  -- where an instruction's effect leads
  abbrev pub LeadsTo : {A : Type 0} → (A → After) → Landing Halt A
  LeadsTo after k a t = go_on (exec w code k) (after a) t

  -- the place behind, under another name
  pub value_at : {n : ℕ} {from : Run Halt} {stack : List ℕ} {o : Outcome ℤ} (place place' : ℕ) → place ≡ place' → Runs n from (Value place stack) o → Runs n from (Value place' stack) o
  value_at {n = n} {from = from} {stack = stack} {o = o} place place' e r = subst (λ p. Runs n from (Value p stack) o) e r

module _ (w : World) (code : Code) (here : Running code) (line : ℕ) where
  -- this operator stands at the place
  abbrev pub OpAt : ℕ → Op → Type 0
  OpAt place op = slice_get here.routine.body place ≡ Some (record { op = op; line = line })

  -- what an operator does there
  abbrev pub effect_at : ℕ → Op → List ℕ → Tape → Outcome After
  effect_at place op stack t = effect w code here.activation here.callers line place op stack t

  -- one step more, at an instruction
  pub one_step : (op : Op) (place : ℕ) (stack : List ℕ) (t : Tape) (o : Outcome After) → OpAt place op → effect_at place op stack t ≡ o → (k : ℕ) → exec w code (suc k) (state w code here place stack) t ≡ then_do o (go_on (exec w code k))
  one_step op place stack t o stands does k =
      let a = here.activation in
      let callers = here.callers in
      ap (λ g. then_do (on_function g t (λ f. at_instr w code (slice_get f.body place) a callers place stack t)) (go_on (exec w code k))) here.found
      ∙ ap (λ x. then_do (at_instr w code x a callers place stack t) (go_on (exec w code k))) stands
      ∙ ap (λ x. then_do x (go_on (exec w code k))) does

  -- an instruction that asks nothing, and leads to a place
  pub runs_quiet : {A : Type 0} {n place : ℕ} {stack : List ℕ} {t : Tape} {land : Landing Halt A} {o : Outcome A} (op : Op) (place' : ℕ) (stack' : List ℕ) → OpAt place op → effect_at place op stack t ≡ Goes (On (state w code here place' stack')) t → Runs n (From w code here place' stack' t) land o → Runs n (From w code here place stack t) land o
  runs_quiet {place = place} {stack = stack} {t = t} op place' stack' stands does r =
      runs_step (From w code here place' stack' t) (one_step op place stack t (Goes (On (state w code here place' stack')) t) stands does) r

  -- an instruction that asks what the part asks
  pub runs_asking : {A : Type 0} {n place : ℕ} {stack : List ℕ} {t : Tape} (op : Op) (o : Outcome A) (after : A → After) → OpAt place op → effect_at place op stack t ≡ then_do o (λ a t. Goes (after a) t) → Runs n (From w code here place stack t) (LeadsTo w code here after) o
  runs_asking {place = place} {stack = stack} {t = t} op o after stands does =
      runs_step (λ k. then_do o (LeadsTo w code here after k)) (λ k. one_step op place stack t (then_do o (λ a t. Goes (after a) t)) stands does k ∙ then_assoc o (λ a t. Goes (after a) t) (go_on (exec w code k))) (runs_asks o (λ k. refl))
