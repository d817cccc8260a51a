-- What stands at a place of a list, and steps of the machine there.
use Rattle.std.proofs.Common.{◌≡◌, ℕ, suc, ◌+◌, ◌<◌, Bool, List, [], ◌∷◌, ◌++◌, length, Some, ap, ◌∙◌, subst, arith, append_assoc, length-append}
use Rattle.std.specs.Prelude.{slice_get}
use Rattle.std.proofs.Math.Seq.{get_or-append_seam}
use Rattle.std.proofs.lemmas.Option.{slice_get-get_or}
use Rattle.css_semantics.specs.Dialogue.{Tape, World, Outcome, Goes, Mode}
use Rattle.css_isa.specs.declared.code.Instr.{Instr}
use Rattle.css_isa.specs.Code.{Routine, Code}
use Rattle.css_isa.specs.Roles.{role_of}
use Rattle.css_isa.specs.Steps.{Activation, Caller, At, Halt, Step, Moves, act, at_instr, on_function, done}
use Rattle.css_isa.specs.Machine.{exec}
use Rattle.css_blocks.proofs.Runs.{Runs, runs_step}

-- the elements stand in the list at this place
abbrev pub HasAt : {A : Type 0} → List A → ℕ → List A → Type 0
HasAt code pc [] = Unit {0}
HasAt code pc (i ∷ is) = (slice_get code pc ≡ Some i) × HasAt code (pc + 1) is

pub has_front : {A : Type 0} (code : List A) (pc : ℕ) (a b : List A) → HasAt code pc (a ++ b) → HasAt code pc a
has_front code pc [] b h = tt
has_front code pc (i ∷ a) b h = (h.0, has_front code (pc + 1) a b h.1)

pub has_back : {A : Type 0} (code : List A) (pc : ℕ) (a b : List A) → HasAt code pc (a ++ b) → HasAt code (pc + length a) b
has_back code pc [] b h = let e : pc ≡ pc + 0 = omega arith in subst (λ n. HasAt code n b) e h
has_back code pc (i ∷ a) b h =
    let e : pc + 1 + length a ≡ pc + length (i ∷ a) = omega arith in
    subst (λ n. HasAt code n b) e (has_back code (pc + 1) a b h.1)

pub has_all : {A : Type 0} (is pre : List A) → HasAt (pre ++ is) (length pre) is
has_all [] pre = tt
has_all (i ∷ is) pre =
    let within : length pre < length (pre ++ i ∷ is) = omega (arith, length-append pre (i ∷ is)) in
    let here = slice_get-get_or (pre ++ i ∷ is) (length pre) i within ∙ ap Some (get_or-append_seam pre i is i) in
    let n : length (pre ++ i ∷ []) ≡ length pre + 1 = omega (arith, length-append pre (i ∷ [])) in
    let rest = has_all is (pre ++ i ∷ []) in
    let rest' = subst (λ l. HasAt l (length (pre ++ i ∷ [])) is) (append_assoc pre (i ∷ []) is) rest in
    (here, subst (λ m. HasAt (pre ++ i ∷ is) m is) n rest')

-- a function of the code that runs: its number, itself, its frame's base, whether it was called as a task, and its callers
pub record Running : Type 0 where
  pub function : ℕ
  pub routine : Routine
  pub base : ℕ
  pub is_task : Bool
  pub callers : List Caller

abbrev pub activation_in : Running → Mode → Activation
activation_in r mode = record { function = r.function; base = r.base; is_task = r.is_task; mode = mode }

module _ (w : World) (code : Code) (r : Running) where
  -- from this place, with these cells
  abbrev pub From : ℕ → Mode → List ℕ → Tape → ℕ → Outcome Halt
  From place mode stack t k = exec w code k (At (activation_in r mode) r.callers place stack) t

  -- the step at an instruction
  abbrev pub StepAt : Instr → ℕ → Mode → List ℕ → Step
  StepAt i place mode stack = act code (activation_in r mode) r.callers i.line place (role_of i.op) i.op stack

  module _ (there : slice_get code.functions r.function ≡ Some r.routine) where
    -- one more step
    pub one_step : (i : Instr) (place : ℕ) (mode : Mode) (stack : List ℕ) (t : Tape) → slice_get r.routine.body place ≡ Some i → (k : ℕ)
        → From place mode stack t (suc k) ≡ done w (exec w code k) Goes (StepAt i place mode stack) t
    one_step i place mode stack t at k =
        ap (λ f. done w (exec w code k) Goes (on_function f (λ f. at_instr code (slice_get f.body place) (activation_in r mode) r.callers place stack)) t) there
        ∙ ap (λ x. done w (exec w code k) Goes (at_instr code x (activation_in r mode) r.callers place stack) t) at

    -- an instruction that asks nothing
    pub runs_moves_on : {A : Type 0} {n : ℕ} {place : ℕ} {mode : Mode} {stack : List ℕ} {t : Tape} {land : ℕ → A → Tape → Outcome Halt} {o : Outcome A} (i : Instr) (place' : ℕ) (mode' : Mode) (stack' : List ℕ)
        → slice_get r.routine.body place ≡ Some i → StepAt i place mode stack ≡ Moves (At (activation_in r mode') r.callers place' stack')
        → Runs n (From place' mode' stack' t) land o → Runs (suc n) (From place mode stack t) land o
    runs_moves_on {place = place} {mode = mode} {stack = stack} {t = t} i place' mode' stack' at e next =
        runs_step (From place' mode' stack' t) (λ k. one_step i place mode stack t at k ∙ ap (λ s. done w (exec w code k) Goes s t) e) next
