-- The machine follows a piece: each of them once.
use Rattle.std.proofs.Common.{◌≡◌, ℕ, zero, suc, ◌+◌, ◌≤◌, Bool, true, false, List, [], ◌∷◌, ◌++◌, length, take, drop, reverse, Option, Some, None, refl, sym, ap, ◌∙◌, subst, arith, length-append}
use Rattle.std.specs.Prelude.{slice_get, nat_eq, nat_le, if◌then◌else◌}
use Rattle.css_base.specs.declared.ending.FaultKind.{FaultKind}
use Rattle.css_semantics.specs.Dialogue.{Turn, WaitFault, DimFault, Item, item_in, Reply, Says, Fails, Refuses, Tape, World, Outcome, Goes, then_do, Mode, Plain, Waiting, Measuring, at_fault, fault_in, ask_in}
use Rattle.css_isa.specs.declared.code.Instr.{Instr}
use Rattle.css_isa.specs.declared.code.Op.{Op}
use Rattle.css_isa.specs.declared.code.Op.TheVariants as ops
use Rattle.css_isa.specs.Code.{Routine, Shape, Code, all_dimensions, call_of}
use Rattle.css_isa.specs.Effects as effects
use Rattle.css_isa.specs.Effects.{Effect, effect}
use Rattle.css_isa.specs.Roles.{Role, Straight, Turning, Outward, Telling, Awaiting, Changing, Testing, Jumping, Branching, Calling, Submitting, Returning, role_of}
use Rattle.css_isa.specs.Steps as steps
use Rattle.css_isa.specs.Steps.{Caller, State, At, Halt, Finished, Stuck, Step, Moves, Halts, left, given_back, done, returning, act, on_function}
use Rattle.css_semantics.specs.Tasks.{makes_tasks}
use Rattle.css_isa.specs.Machine.{exec}
use Rattle.css_blocks.specs.declared.part.Way.{Way}
use Rattle.css_blocks.specs.declared.part.Way.TheVariants.{Breaks, Continues}
use Rattle.css_blocks.specs.Pieces.{Piece, Skip, Then, Do, Choice, When, Loop, Catch, Exit, Unless, Invoke, Submit, Leave, is_plain, Ways, at_way, aimed}
use Rattle.css_blocks.specs.Meaning.{Exits, Falls, Jumps, Returns, Sticks, Does, on_fall, caught, worked, acts, turns, Calls, given, means}
use Rattle.css_blocks.specs.Layout.{size, instr, lower}
use Rattle.css_blocks.specs.Finds.{Level, Takes, IsTask, Finds}
use Rattle.css_blocks.proofs.Runs.{Runs, runs_done, runs_step, runs_less, runs_fewer, runs_then, runs_moves, runs_asks}
use Rattle.css_blocks.proofs.Stands.{HasAt, has_front, has_back, Running, activation_in, From, StepAt, one_step, runs_moves_on}

pub length-lower : (p : Piece) (at : ℕ) (ts : Ways ℕ) → length (lower p at ts) ≡ size p
length-lower Skip at ts = refl
length-lower (Then p q) at ts = omega (arith, length-append (lower p at ts) (lower q (at + size p) ts), length-lower p at ts, length-lower q (at + size p) ts)
length-lower (Do line op) at ts = refl
length-lower (Choice line p q) at ts =
    let second = at + 1 + size p + 1 in
    omega (arith, length-append (lower p (at + 1) ts) (instr line (ops.Jump (second + size q)) ∷ lower q second ts), length-lower p (at + 1) ts, length-lower q second ts)
length-lower (When line p) at ts = omega (arith, length-lower p (at + 1) ts)
length-lower (Loop line p q) at ts =
    let last : List Instr = lower q (at + size p + 1) ts ++ instr line (ops.Jump at) ∷ [] in
    omega (arith, length-append (lower p at ts) (instr line ops.Turn ∷ last), length-append (lower q (at + size p + 1) ts) (instr line (ops.Jump at) ∷ []), length-lower p at ts, length-lower q (at + size p + 1) ts)
length-lower (Catch way p) at ts = length-lower p at (aimed way (at + size p) ts)
length-lower (Exit line way) at ts = refl
length-lower (Unless line way) at ts = refl
length-lower (Invoke line f count) at ts = refl
length-lower (Submit line f count dims) at ts = refl
length-lower (Leave line) at ts = refl

-- what stands behind a piece
pub has_next : (code : List Instr) (p : Piece) (at : ℕ) (ts : Ways ℕ) (is : List Instr) → HasAt code at (lower p at ts ++ is) → HasAt code (at + size p) is
has_next code p at ts is h = subst (λ n. HasAt code (at + n) is) (length-lower p at ts) (has_back code at (lower p at ts) is h)

-- ---- faults

stops_runs : {A : Type 0} {n : ℕ} {land : ℕ → A → Tape → Outcome Halt} (reply : Reply) (kind : FaultKind) (i : Item) (t : Tape) → Runs n (λ k. at_fault reply kind i t) land (at_fault reply kind i t)
stops_runs {n = n} (Says value) kind i t = record { by = (n, omega arith, refl) }
stops_runs {n = n} Fails kind i t = record { by = (n, omega arith, refl) }
stops_runs {n = n} (Refuses rule) kind i t = record { by = (n, omega arith, refl) }

fault_runs : {A : Type 0} {n : ℕ} {land : ℕ → A → Tape → Outcome Halt} (w : World) (mode : Mode) (kind : FaultKind) (line : ℕ) (t : Tape) → Runs n (λ k. fault_in w mode kind line t) land (fault_in w mode kind line t)
fault_runs {n = n} w Plain kind line t = record { by = (n, omega arith, refl) }
fault_runs w Waiting kind line t = stops_runs (w t (item_in Waiting WaitFault line)) kind (item_in Waiting WaitFault line) t
fault_runs w (Measuring arguments) kind line t = stops_runs (w t (item_in (Measuring arguments) DimFault line)) kind (item_in (Measuring arguments) DimFault line) t

-- one of two ways
if_runs : {A : Type 0} {n : ℕ} {land : ℕ → A → Tape → Outcome Halt} {oa ob : Outcome A} {f g : ℕ → Outcome Halt} (b : Bool) → Runs n f land oa → Runs n g land ob → Runs n (λ k. if b then f k else g k) land (if b then oa else ob)
if_runs true ra rb = ra
if_runs false ra rb = rb

module _ (w : World) (code : Code) (r : Running) where
  -- where a function goes on that its callee gives a cell to
  abbrev pub Given : ℕ → Mode → List ℕ → ℕ → Option ℕ → Tape → Outcome Halt
  Given place mode rest k None t = Goes Stuck t
  Given place mode rest k (Some cell) t = From w code r place mode (cell ∷ rest) t k

  -- where a function leads that returns
  abbrev pub LeftTo : List Caller → ℕ → ℕ → ℕ → Tape → Outcome Halt
  LeftTo [] cell line k t = Goes (Finished cell r.base line) t
  LeftTo (c ∷ others) cell line k t =
      then_do (left w r.base r.routine.frame r.is_task line t) (λ e t'. exec w code k (At c.activation others c.place (given_back r.is_task cell ∷ c.stack)) t')

  -- where a piece leads that ends at this place
  abbrev pub Lands : ℕ → Ways ℕ → ℕ → Exits → Tape → Outcome Halt
  Lands end ts k (Falls mode stack) t = From w code r end mode stack t k
  Lands end ts k (Jumps way mode stack) t = From w code r (at_way ts way) mode stack t k
  Lands end ts k (Returns cell line) t = LeftTo r.callers cell line k t
  Lands end ts k Sticks t = Goes Stuck t

  -- the place at the end, under another name
  pub lands_at : {n : ℕ} {from : ℕ → Outcome Halt} {ts : Ways ℕ} {o : Outcome Exits} (end end' : ℕ) → end ≡ end' → Runs n from (Lands end ts) o → Runs n from (Lands end' ts) o
  lands_at {n = n} {from = from} {ts = ts} {o = o} end end' e ran = subst (λ p. Runs n from (Lands p ts) o) e ran

-- A call's instruction does what calls mean here.
pub record CallsRun (w : World) (code : Code) (calls : Calls) (n : ℕ) (r : Running) : Type 0 where
  pub call : (line f count place : ℕ) (mode : Mode) (stack : List ℕ) (t : Tape) → Takes code f count → nat_le count (length stack) ≡ true
      → slice_get r.routine.body place ≡ Some (instr line (ops.Call f))
      → Runs n (From w code r place mode stack t) (Given w code r (place + 1) mode (drop count stack)) (calls.call f (reverse (take count stack)) line t)
  pub submit : (line f count dims place : ℕ) (mode : Mode) (stack : List ℕ) (t : Tape) → IsTask code f count dims → nat_le dims (length stack) ≡ true → nat_le count (length (drop dims stack)) ≡ true
      → slice_get r.routine.body place ≡ Some (instr line (ops.Submit f))
      → Runs n (From w code r place mode stack t) (Given w code r (place + 1) mode (drop count (drop dims stack))) (calls.submit f (reverse (take count (drop dims stack))) (reverse (take dims stack)) r.base line t)

module _ (w : World) (code : Code) (r : Running) (there : slice_get code.functions r.function ≡ Some r.routine) where
  abbrev Begins : ℕ → Mode → List ℕ → Tape → ℕ → Outcome Halt
  Begins = From w code r

  abbrev Ends : ℕ → Ways ℕ → ℕ → Exits → Tape → Outcome Halt
  Ends = Lands w code r

  abbrev Next : ℕ → Step → Tape → Outcome Halt
  Next k s t = done w (exec w code k) Goes s t

  -- an instruction that lacks something
  stuck_runs : {n : ℕ} {ts : Ways ℕ} (i : Instr) (place end : ℕ) (mode : Mode) (stack : List ℕ) (t : Tape) → slice_get r.routine.body place ≡ Some i → StepAt w code r i place mode stack ≡ Halts Stuck → Runs n (Begins place mode stack t) (Ends end ts) (Goes Sticks t)
  stuck_runs {n = n} {ts = ts} i place end mode stack t at e =
      runs_less (runs_step (λ k. Goes Stuck t) (λ k. one_step w code r there i place mode stack t at k ∙ ap (λ s. Next k s t) e) (runs_done n (Ends end ts) Sticks t))

  -- a jump that depends on the topmost cell
  branch_runs : {n : ℕ} {land : ℕ → Exits → Tape → Outcome Halt} {oa ob : Outcome Exits} (b : Bool) (i : Instr) (to place : ℕ) (mode : Mode) (stack rest : List ℕ) (t : Tape) → slice_get r.routine.body place ≡ Some i
      → StepAt w code r i place mode stack ≡ Moves (At (activation_in r mode) r.callers (if b then to else place + 1) rest)
      → Runs n (Begins to mode rest t) land oa → Runs n (Begins (place + 1) mode rest t) land ob → Runs n (Begins place mode stack t) land (if b then oa else ob)
  branch_runs true i to place mode stack rest t at e ra rb = runs_less (runs_moves_on w code r there i to mode rest at e ra)
  branch_runs false i to place mode stack rest t at e ra rb = runs_less (runs_moves_on w code r there i (place + 1) mode rest at e rb)

  -- a jump behind a piece
  jump_moves : (line end end' : ℕ) (ts : Ways ℕ) → slice_get r.routine.body end ≡ Some (instr line (ops.Jump end')) → (e : Exits) (t : Tape) (k : ℕ) → (j : ℕ) × (k ≤ j) × (Ends end ts j e t ≡ Ends end' ts k e t)
  jump_moves line end end' ts at (Falls mode stack) t k = (suc k, omega arith, one_step w code r there (instr line (ops.Jump end')) end mode stack t at k)
  jump_moves line end end' ts at (Jumps way mode stack) t k = (k, omega arith, refl)
  jump_moves line end end' ts at (Returns cell l) t k = (k, omega arith, refl)
  jump_moves line end end' ts at Sticks t k = (k, omega arith, refl)

  -- a piece behind another
  fall_runs : {n : ℕ} (mid end : ℕ) (ts : Ways ℕ) (go : Does) → ((m : Mode) (s : List ℕ) (t : Tape) → Runs n (Begins mid m s t) (Ends end ts) (go m s t)) → (e : Exits) (t : Tape) → Runs n (λ k. Ends mid ts k e t) (Ends end ts) (on_fall go e t)
  fall_runs {n = n} mid end ts go ran (Falls mode stack) t = ran mode stack t
  fall_runs {n = n} mid end ts go ran (Jumps way mode stack) t = runs_done n (Ends end ts) (Jumps way mode stack) t
  fall_runs {n = n} mid end ts go ran (Returns cell l) t = runs_done n (Ends end ts) (Returns cell l) t
  fall_runs {n = n} mid end ts go ran Sticks t = runs_done n (Ends end ts) Sticks t

  -- a way out that leads here
  caught_runs : {n : ℕ} (way : Way) (end : ℕ) (ts : Ways ℕ) (e : Exits) (t : Tape) → Runs n (λ k. Ends end (aimed way end ts) k e t) (Ends end ts) (Goes (caught way e) t)
  caught_runs {n = n} Breaks end ts (Falls mode stack) t = runs_done n (Ends end ts) (Falls mode stack) t
  caught_runs {n = n} Breaks end ts (Jumps Breaks mode stack) t = runs_done n (Ends end ts) (Falls mode stack) t
  caught_runs {n = n} Breaks end ts (Jumps Continues mode stack) t = runs_done n (Ends end ts) (Jumps Continues mode stack) t
  caught_runs {n = n} Breaks end ts (Returns cell l) t = runs_done n (Ends end ts) (Returns cell l) t
  caught_runs {n = n} Breaks end ts Sticks t = runs_done n (Ends end ts) Sticks t
  caught_runs {n = n} Continues end ts (Falls mode stack) t = runs_done n (Ends end ts) (Falls mode stack) t
  caught_runs {n = n} Continues end ts (Jumps Breaks mode stack) t = runs_done n (Ends end ts) (Jumps Breaks mode stack) t
  caught_runs {n = n} Continues end ts (Jumps Continues mode stack) t = runs_done n (Ends end ts) (Falls mode stack) t
  caught_runs {n = n} Continues end ts (Returns cell l) t = runs_done n (Ends end ts) (Returns cell l) t
  caught_runs {n = n} Continues end ts Sticks t = runs_done n (Ends end ts) Sticks t

  -- ---- instructions that go on at the next place

  worked_runs : {n : ℕ} (from : ℕ → Outcome Halt) (eff : Effect) (line at : ℕ) (ts : Ways ℕ) (mode : Mode) (t : Tape)
      → ((k : ℕ) → from (suc k) ≡ Next k (steps.worked code (activation_in r mode) r.callers line at eff) t)
      → Runs n from (Ends (at + 1) ts) (worked w line mode eff t)
  worked_runs {n = n} from (effects.Gives cells) line at ts mode t e = runs_less (runs_step (Begins (at + 1) mode cells t) e (runs_done n (Ends (at + 1) ts) (Falls mode cells) t))
  worked_runs {n = n} from (effects.Asks action ty cells) line at ts mode t e =
      runs_less (runs_step (λ k. Next k (steps.worked code (activation_in r mode) r.callers line at (effects.Asks action ty cells)) t) e
      (runs_then (runs_asks (ask_in w mode action line t) (λ k. refl)) (λ reply t'. runs_done n (Ends (at + 1) ts) (Falls mode _) t')))
  worked_runs {n = n} from (effects.Tells action cells) line at ts mode t e =
      runs_less (runs_step (λ k. Next k (steps.worked code (activation_in r mode) r.callers line at (effects.Tells action cells)) t) e
      (runs_then (runs_asks (ask_in w mode action line t) (λ k. refl)) (λ reply t'. runs_done n (Ends (at + 1) ts) (Falls mode cells) t')))
  worked_runs {n = n} from (effects.Faults kind) line at ts mode t e = runs_less (runs_step (λ k. fault_in w mode kind line t) e (fault_runs w mode kind line t))
  worked_runs {n = n} from effects.Lacks line at ts mode t e = runs_less (runs_step (λ k. Goes Stuck t) e (runs_done n (Ends (at + 1) ts) Sticks t))

  acts_run : {n : ℕ} (from : ℕ → Outcome Halt) (role : Role) (op : Op) (line at : ℕ) (ts : Ways ℕ) (mode : Mode) (stack : List ℕ) (t : Tape) → is_plain role ≡ true
      → ((k : ℕ) → from (suc k) ≡ Next k (act code (activation_in r mode) r.callers line at role op stack) t)
      → Runs n from (Ends (at + 1) ts) (acts w r.base line role op mode stack t)
  acts_run from (Straight needed taken gives) op line at ts mode stack t plain e = worked_runs from (effect r.base op stack) line at ts mode t e
  acts_run from Turning op line at ts mode stack t plain e = worked_runs from (effect r.base op stack) line at ts mode t e
  acts_run from (Outward taken gives) op line at ts mode stack t plain e = worked_runs from (effect r.base op stack) line at ts mode t e
  acts_run from Telling op line at ts mode stack t plain e = worked_runs from (effect r.base op stack) line at ts mode t e
  acts_run from Awaiting op line at ts mode stack t plain e = worked_runs from (effect r.base op stack) line at ts mode t e
  acts_run {n = n} from (Changing next) op line at ts mode stack t plain e = runs_less (runs_step (Begins (at + 1) next stack t) e (runs_done n (Ends (at + 1) ts) (Falls next stack) t))
  acts_run {n = n} from Testing op line at ts mode stack t plain e =
      runs_less (runs_step (λ k. if makes_tasks t then Begins (at + 1) mode (1 ∷ stack) t k else Begins (at + 1) mode (0 ∷ stack) t k) e
      (if_runs (makes_tasks t) (runs_done n (Ends (at + 1) ts) (Falls mode (1 ∷ stack)) t) (runs_done n (Ends (at + 1) ts) (Falls mode (0 ∷ stack)) t)))
  acts_run from (Jumping to) op line at ts mode stack t plain e = cc
  acts_run from (Branching to) op line at ts mode stack t plain e = cc
  acts_run from (Calling k) op line at ts mode stack t plain e = cc
  acts_run from (Submitting k) op line at ts mode stack t plain e = cc
  acts_run from Returning op line at ts mode stack t plain e = cc

  -- ---- the return

  returning_is : (callers : List Caller) (line at : ℕ) (mode : Mode) (cell k : ℕ) (t : Tape)
      → Next k (returning code (activation_in r mode) r.callers line at callers r.routine cell) t ≡ LeftTo w code r callers cell line k t
  returning_is [] line at mode cell k t = refl
  returning_is (c ∷ others) line at mode cell k t = refl

  leave_runs : {n : ℕ} (line at end : ℕ) (ts : Ways ℕ) (mode : Mode) (cell : ℕ) (rest : List ℕ) (t : Tape) → slice_get r.routine.body at ≡ Some (instr line ops.Ret) → Runs n (Begins at mode (cell ∷ rest) t) (Ends end ts) (Goes (Returns cell line) t)
  leave_runs {n = n} line at end ts mode cell rest t has =
      runs_less (runs_step (λ k. LeftTo w code r r.callers cell line k t)
      (λ k. one_step w code r there (instr line ops.Ret) at mode (cell ∷ rest) t has k
      ∙ ap (λ f. Next k (on_function f (λ f. returning code (activation_in r mode) r.callers line at r.callers f cell)) t) there
      ∙ returning_is r.callers line at mode cell k t)
      (runs_done n (Ends end ts) (Returns cell line) t))

  -- ---- loops

  -- at most m turns, from the instruction that asks for one
  turns_run : (n line : ℕ) (first second : Does) (at turn last end : ℕ) (ts : Ways ℕ)
      → slice_get r.routine.body turn ≡ Some (instr line ops.Turn) → slice_get r.routine.body last ≡ Some (instr line (ops.Jump at))
      → ((mode : Mode) (s : List ℕ) (t : Tape) → Runs n (Begins at mode s t) (Ends turn ts) (first mode s t))
      → ((mode : Mode) (s : List ℕ) (t : Tape) → Runs n (Begins (turn + 1) mode s t) (Ends last ts) (second mode s t))
      → (m : ℕ) → m ≤ n → (mode : Mode) (s : List ℕ) (t : Tape) → Runs m (Begins turn mode s t) (Ends end ts) (turns w line m first second mode s t)
  turns_run n line first second at turn last end ts h_turn h_last r_first r_second zero le mode s t = record { by = (0, omega arith, refl) }
  turns_run n line first second at turn last end ts h_turn h_last r_first r_second (suc m) le mode s t =
      let again : (mode : Mode) (s : List ℕ) (t : Tape) → Runs m (Begins at mode s t) (Ends end ts) (then_do (first mode s t) (on_fall (turns w line m first second))) =
      λ mode s t. runs_then (runs_fewer (omega arith) (r_first mode s t)) (fall_runs turn end ts (turns w line m first second) (turns_run n line first second at turn last end ts h_turn h_last r_first r_second m (omega arith))) in
      let back : (mode : Mode) (s : List ℕ) (t : Tape) → Runs (suc m) (Begins last mode s t) (Ends end ts) (then_do (first mode s t) (on_fall (turns w line m first second))) =
      λ mode s t. runs_moves_on w code r there (instr line (ops.Jump at)) at mode s h_last refl (again mode s t) in
      let inside : (mode : Mode) (s : List ℕ) (t : Tape) → Runs (suc m) (Begins (turn + 1) mode s t) (Ends end ts) (then_do (second mode s t) (on_fall (λ mode s t. then_do (first mode s t) (on_fall (turns w line m first second))))) =
      λ mode s t. runs_then (runs_fewer le (r_second mode s t)) (fall_runs last end ts _ back) in
      runs_less (runs_step (λ k. then_do (ask_in w mode Turn line t) (λ reply t'. Begins (turn + 1) mode s t' k)) (one_step w code r there (instr line ops.Turn) turn mode s t h_turn) (runs_then (runs_asks (ask_in w mode Turn line t) (λ k. refl)) (λ reply t'. inside mode s t')))

  -- ---- tasks' calls

  -- the step at a task's call, where it has so many dimensions and arguments
  abbrev pub SubmitStep : (line f at : ℕ) → Mode → Routine → Shape → (dims count : ℕ) → List ℕ → Step
  SubmitStep line f at mode g s dims count stack =
      steps.on_many dims stack (λ dimensions under. steps.on_many count under (λ arguments rest.
      steps.Submits (call_of f g s arguments dimensions r.base) f g arguments line (steps.waiting code (activation_in r mode) r.callers line at rest ∷ r.callers) (At (activation_in r mode) r.callers (at + 1) (0 ∷ rest))))

  pub submit_step : (line f count dims at : ℕ) (mode : Mode) (stack : List ℕ) → (task : IsTask code f count dims) → StepAt w code r (instr line (ops.Submit f)) at mode stack ≡ SubmitStep line f at mode task.0 task.1 dims count stack
  submit_step line f count dims at mode stack task =
      ap (λ x. on_function x (λ g. steps.on_task g.task (λ s. SubmitStep line f at mode g s (all_dimensions s.arguments) (length g.parameters) stack))) task.2
      ∙ ap (λ x. steps.on_task x (λ s. SubmitStep line f at mode task.0 s (all_dimensions s.arguments) (length task.0.parameters) stack)) task.4
      ∙ ap (λ d. SubmitStep line f at mode task.0 task.1 d (length task.0.parameters) stack) task.5
      ∙ ap (λ c. SubmitStep line f at mode task.0 task.1 dims c stack) task.3

  abbrev pub SubmitBy : Bool → Bool → (line f at : ℕ) → Mode → Routine → Shape → (dims count : ℕ) → List ℕ → Step
  SubmitBy b c line f at mode g s dims count stack =
      if b then (if c then steps.Submits (call_of f g s (reverse (take count (drop dims stack))) (reverse (take dims stack)) r.base) f g (reverse (take count (drop dims stack))) line (steps.waiting code (activation_in r mode) r.callers line at (drop count (drop dims stack)) ∷ r.callers) (At (activation_in r mode) r.callers (at + 1) (0 ∷ drop count (drop dims stack))) else Halts Stuck) else Halts Stuck

module _ (w : World) (code : Code) (calls : Calls) (n : ℕ) (r : Running) (there : slice_get code.functions r.function ≡ Some r.routine) (calls_run : CallsRun w code calls n r) where
  given_runs : (end : ℕ) (ts : Ways ℕ) (mode : Mode) (rest : List ℕ) (o : Option ℕ) (t : Tape) → Runs n (λ k. Given w code r end mode rest k o t) (Lands w code r end ts) (given mode rest o t)
  given_runs end ts mode rest None t = runs_done n (Lands w code r end ts) Sticks t
  given_runs end ts mode rest (Some cell) t = runs_done n (Lands w code r end ts) (Falls mode (cell ∷ rest)) t

  abbrev Called : (line f count at : ℕ) → Ways ℕ → Mode → List ℕ → Tape → Outcome Exits → Type 0
  Called line f count at ts mode stack t o = Runs n (From w code r at mode stack t) (Lands w code r (at + 1) ts) o

  invoke_runs : (b : Bool) (line f count at : ℕ) (ts : Ways ℕ) (mode : Mode) (stack : List ℕ) (t : Tape) → Takes code f count → nat_le count (length stack) ≡ b
      → slice_get r.routine.body at ≡ Some (instr line (ops.Call f)) → Runs n (From w code r at mode stack t) (Lands w code r (at + 1) ts) (means w calls n r.base (Invoke line f count) mode stack t)
  invoke_runs true line f count at ts mode stack t takes enough has =
      subst (λ b. Runs n (From w code r at mode stack t) (Lands w code r (at + 1) ts) (if b then then_do (calls.call f (reverse (take count stack)) line t) (given mode (drop count stack)) else Goes Sticks t)) (sym enough)
      (runs_then (calls_run.call line f count at mode stack t takes enough has) (given_runs (at + 1) ts mode (drop count stack)))
  invoke_runs false line f count at ts mode stack t takes lack has =
      subst (λ b. Runs n (From w code r at mode stack t) (Lands w code r (at + 1) ts) (if b then then_do (calls.call f (reverse (take count stack)) line t) (given mode (drop count stack)) else Goes Sticks t)) (sym lack)
      (stuck_runs w code r there (instr line (ops.Call f)) at (at + 1) mode stack t has
      (ap (λ x. on_function x (λ g. steps.on_many (length g.parameters) stack (λ arguments rest. steps.Enters f g false arguments line (steps.waiting code (activation_in r mode) r.callers line at rest ∷ r.callers)))) takes.1
      ∙ ap (λ c. steps.on_many c stack (λ arguments rest. steps.Enters f takes.0 false arguments line (steps.waiting code (activation_in r mode) r.callers line at rest ∷ r.callers))) takes.2
      ∙ ap (λ b. if b then steps.Enters f takes.0 false (reverse (take count stack)) line (steps.waiting code (activation_in r mode) r.callers line at (drop count stack) ∷ r.callers) else Halts Stuck) lack))

  abbrev SubmitMeans : Bool → Bool → (line f count dims : ℕ) → Mode → List ℕ → Tape → Outcome Exits
  SubmitMeans b c line f count dims mode stack t =
      if b then (if c then then_do (calls.submit f (reverse (take count (drop dims stack))) (reverse (take dims stack)) r.base line t) (given mode (drop count (drop dims stack))) else Goes Sticks t) else Goes Sticks t

  submit_runs : (b c : Bool) (line f count dims at : ℕ) (ts : Ways ℕ) (mode : Mode) (stack : List ℕ) (t : Tape) → IsTask code f count dims → nat_le dims (length stack) ≡ b → nat_le count (length (drop dims stack)) ≡ c
      → slice_get r.routine.body at ≡ Some (instr line (ops.Submit f)) → Runs n (From w code r at mode stack t) (Lands w code r (at + 1) ts) (means w calls n r.base (Submit line f count dims) mode stack t)
  submit_runs true true line f count dims at ts mode stack t task has_dims has_args has =
      subst (λ b. Runs n (From w code r at mode stack t) (Lands w code r (at + 1) ts) (SubmitMeans b (nat_le count (length (drop dims stack))) line f count dims mode stack t)) (sym has_dims)
      (subst (λ c. Runs n (From w code r at mode stack t) (Lands w code r (at + 1) ts) (SubmitMeans true c line f count dims mode stack t)) (sym has_args)
      (runs_then (calls_run.submit line f count dims at mode stack t task has_dims has_args has) (given_runs (at + 1) ts mode (drop count (drop dims stack)))))
  submit_runs true false line f count dims at ts mode stack t task has_dims lack has =
      subst (λ b. Runs n (From w code r at mode stack t) (Lands w code r (at + 1) ts) (SubmitMeans b (nat_le count (length (drop dims stack))) line f count dims mode stack t)) (sym has_dims)
      (subst (λ c. Runs n (From w code r at mode stack t) (Lands w code r (at + 1) ts) (SubmitMeans true c line f count dims mode stack t)) (sym lack)
      (stuck_runs w code r there (instr line (ops.Submit f)) at (at + 1) mode stack t has
      (submit_step w code r there line f count dims at mode stack task ∙ ap (λ b. SubmitBy w code r there b (nat_le count (length (drop dims stack))) line f at mode task.0 task.1 dims count stack) has_dims ∙ ap (λ c. SubmitBy w code r there true c line f at mode task.0 task.1 dims count stack) lack)))
  submit_runs false c line f count dims at ts mode stack t task lack has_args has =
      subst (λ b. Runs n (From w code r at mode stack t) (Lands w code r (at + 1) ts) (SubmitMeans b (nat_le count (length (drop dims stack))) line f count dims mode stack t)) (sym lack)
      (stuck_runs w code r there (instr line (ops.Submit f)) at (at + 1) mode stack t has
      (submit_step w code r there line f count dims at mode stack task ∙ ap (λ b. SubmitBy w code r there b (nat_le count (length (drop dims stack))) line f at mode task.0 task.1 dims count stack) lack))

  -- The machine, at a piece's first instruction, makes the piece's dialogue, and comes to where the piece leads.
  pub piece_runs : (p : Piece) (ls : Ways Level) (l : Level) → Finds code ls p l → (at : ℕ) (ts : Ways ℕ) (mode : Mode) (stack : List ℕ) (t : Tape) → HasAt r.routine.body at (lower p at ts)
      → Runs n (From w code r at mode stack t) (Lands w code r (at + size p) ts) (means w calls n r.base p mode stack t)
  piece_runs Skip ls l finds at ts mode stack t has = lands_at w code r at _ (omega arith) (runs_done n (Lands w code r at ts) (Falls mode stack) t)
  piece_runs (Then p q) ls l finds at ts mode stack t has =
      lands_at w code r (at + size p + size q) _ (omega arith)
      (runs_then (piece_runs p ls l finds.0 at ts mode stack t (has_front r.routine.body at (lower p at ts) _ has)) (fall_runs w code r there (at + size p) _ ts _ (λ m s t. piece_runs q ls _ finds.1 (at + size p) ts m s t (has_next r.routine.body p at ts _ has))))
  piece_runs (Do line op) ls l finds at ts mode stack t has =
      acts_run w code r there (From w code r at mode stack t) (role_of op) op line at ts mode stack t finds.0 (one_step w code r there (instr line op) at mode stack t has.0)
  piece_runs (Choice line p q) ls l finds at ts mode [] t has = stuck_runs w code r there _ at _ mode [] t has.0 refl
  piece_runs (Choice line p q) ls l finds at ts mode (v ∷ rest) t has =
      let second = at + 1 + size p + 1 in
      let behind : List Instr = instr line (ops.Jump (second + size q)) ∷ lower q second ts in
      let over = has_next r.routine.body p (at + 1) ts behind has.1 in
      let first = runs_moves (Lands w code r (at + 1 + size p) ts) (jump_moves w code r there line (at + 1 + size p) (second + size q) ts over.0) (piece_runs p ls _ finds.1 (at + 1) ts mode rest t (has_front r.routine.body (at + 1) (lower p (at + 1) ts) behind has.1)) in
      lands_at w code r (second + size q) _ (omega arith)
      (branch_runs w code r there (nat_eq v 0) (instr line (ops.Jumpz second)) second at mode (v ∷ rest) rest t has.0 refl (piece_runs q ls _ finds.2 second ts mode rest t over.1) first)
  piece_runs (When line p) ls l finds at ts mode [] t has = stuck_runs w code r there _ at _ mode [] t has.0 refl
  piece_runs (When line p) ls l finds at ts mode (v ∷ rest) t has =
      let end = at + 1 + size p in
      lands_at w code r end _ (omega arith)
      (branch_runs w code r there (nat_eq v 0) (instr line (ops.Jumpz end)) end at mode (v ∷ rest) rest t has.0 refl (runs_done n (Lands w code r end ts) (Falls mode rest) t) (piece_runs p ls _ finds.1 (at + 1) ts mode rest t has.1))
  piece_runs (Loop line p q) ls l finds at ts mode stack t has =
      let turn = at + size p in
      let over = has_next r.routine.body p at ts _ has in
      let last = has_next r.routine.body q (turn + 1) ts _ over.1 in
      let first : (m : Mode) (s : List ℕ) (t : Tape) → Runs n (From w code r at m s t) (Lands w code r turn ts) (means w calls n r.base p m s t) =
      λ m s t. piece_runs p ls l finds.0 at ts m s t (has_front r.routine.body at (lower p at ts) _ has) in
      let second : (m : Mode) (s : List ℕ) (t : Tape) → Runs n (From w code r (turn + 1) m s t) (Lands w code r (turn + 1 + size q) ts) (means w calls n r.base q m s t) =
      λ m s t. piece_runs q ls _ finds.1 (turn + 1) ts m s t (has_front r.routine.body (turn + 1) (lower q (turn + 1) ts) _ over.1) in
      let end = at + size (Loop line p q) in
      runs_then (first mode stack t) (fall_runs w code r there turn end ts _ (turns_run w code r there n line (means w calls n r.base p) (means w calls n r.base q) at turn (turn + 1 + size q) end ts over.0 last.0 first second n (omega arith)))
  piece_runs (Catch way p) ls l finds at ts mode stack t has =
      runs_then (piece_runs p _ l finds at (aimed way (at + size p) ts) mode stack t has) (caught_runs w code r there way (at + size p) ts)
  piece_runs (Exit line way) ls l finds at ts mode stack t has =
      runs_less (runs_moves_on w code r there (instr line (ops.Jump (at_way ts way))) (at_way ts way) mode stack has.0 refl (runs_done n (Lands w code r (at + 1) ts) (Jumps way mode stack) t))
  piece_runs (Unless line way) ls l finds at ts mode [] t has = stuck_runs w code r there _ at _ mode [] t has.0 refl
  piece_runs (Unless line way) ls l finds at ts mode (v ∷ rest) t has =
      branch_runs w code r there (nat_eq v 0) (instr line (ops.Jumpz (at_way ts way))) (at_way ts way) at mode (v ∷ rest) rest t has.0 refl
      (runs_done n (Lands w code r (at + 1) ts) (Jumps way mode rest) t) (runs_done n (Lands w code r (at + 1) ts) (Falls mode rest) t)
  piece_runs (Invoke line f count) ls l finds at ts mode stack t has = invoke_runs (nat_le count (length stack)) line f count at ts mode stack t finds.0 refl has.0
  piece_runs (Submit line f count dims) ls l finds at ts mode stack t has =
      submit_runs (nat_le dims (length stack)) (nat_le count (length (drop dims stack))) line f count dims at ts mode stack t finds.0 refl refl has.0
  piece_runs (Leave line) ls l finds at ts mode [] t has = stuck_runs w code r there _ at _ mode [] t has.0 refl
  piece_runs (Leave line) ls l finds at ts mode (v ∷ rest) t has = leave_runs w code r there line at _ ts mode v rest t has.0
