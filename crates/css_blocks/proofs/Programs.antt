-- The machine follows a call, and so a whole program of pieces.
use Rattle.std.proofs.Common.{◌≡◌, ℕ, zero, suc, ◌+◌, ◌-◌, ◌≤◌, pos, Bool, true, false, List, [], ◌∷◌, length, take, drop, reverse, map, Option, Some, None, refl, sym, ap, ◌∙◌, subst, arith}
use Rattle.std.specs.Prelude.{slice_get, nat_le, if◌then◌else◌}
use Rattle.css_base.specs.declared.ending.Stop.{Stop}
use Rattle.css_semantics.specs.Dialogue as dialogue
use Rattle.css_semantics.specs.Dialogue.{Action, Item, item, Reply, Says, Fails, Refuses, Tape, World, Outcome, Goes, Stops, Stopped, Tired, then_do, Mode, Plain, replied, ask}
use Rattle.css_semantics.specs.Tasks.{is_started}
use Rattle.css_isa.specs.Cells.{int_of}
use Rattle.css_isa.specs.declared.code.Op.TheVariants as ops
use Rattle.css_isa.specs.Code.{Routine, Shape, Code, call_of}
use Rattle.css_isa.specs.Steps as steps
use Rattle.css_isa.specs.Steps.{Caller, State, Begin, At, Halt, Finished, Stuck, Step, on_function, entered, left, given_back, done}
use Rattle.css_isa.specs.Machine.{exec, frame_of, entry_line, finished, main_ends, body_ends}
use Rattle.css_semantics.specs.Fronts.{Extends, Grows}
use Rattle.css_isa.proofs.Growth.{grows_exec, extends_exec}
use Rattle.css_blocks.specs.declared.part.Way.TheVariants.{Breaks, Continues}
use Rattle.css_blocks.specs.Pieces.{both}
use Rattle.css_blocks.specs.Meaning.{Exits, Falls, Jumps, Returns, Sticks, Calls, means}
use Rattle.css_blocks.specs.Layout.{size, instr, lower, Function, Program, ended, routine_of, code_of}
use Rattle.css_blocks.specs.Programs.{returned, applied, gone, called, behind_call, submitted_as, submitted, calls_of, begun, run_of}
use Rattle.css_blocks.specs.Finds.{ground, AreFound, Fit}
use Rattle.css_blocks.specs.Correct.{SameDialogue, Behaves}
use Rattle.css_blocks.proofs.Runs.{Runs, RunsTo, runs_done, runs_step, runs_less, runs_then, runs_moves, runs_asks}
use Rattle.css_blocks.proofs.Stands.{HasAt, has_front, has_all, Running, activation_in, From, one_step}
use Rattle.css_blocks.proofs.Pieces.{has_next, Given, LeftTo, Lands, lands_at, CallsRun, submit_step, SubmitBy, piece_runs}

abbrev routine_at : Option Function → Option Routine
routine_at None = None
routine_at (Some f) = Some (routine_of f)

pub code_at : (fs : List Function) (k : ℕ) → slice_get (map routine_of fs) k ≡ routine_at (slice_get fs k)
code_at [] k = refl
code_at (f ∷ fs) zero = refl
code_at (f ∷ fs) (suc k) = code_at fs k

module _ (w : World) (p : Program) where
  abbrev code : Code
  code = code_of p

  -- behind a function that is over, called as a task or not
  abbrev Behind : List Caller → (frame : ℕ) → Bool → ℕ → Halt → Tape → Outcome Halt
  Behind [] frame is_task k (Finished cell base line) t = Goes (Finished cell base line) t
  Behind (c ∷ others) frame is_task k (Finished cell base line) t =
      then_do (left w base frame is_task line t) (λ e t'. exec w code k (At c.activation others c.place (given_back is_task cell ∷ c.stack)) t')
  Behind callers frame is_task k Stuck t = Goes Stuck t

  left_is : (r : Running) (callers : List Caller) (cell line k : ℕ) (t : Tape) → LeftTo w code r callers cell line k t ≡ Behind callers r.routine.frame r.is_task k (Finished cell r.base line) t
  left_is r [] cell line k t = refl
  left_is r (c ∷ others) cell line k t = refl

  stuck_is : (r : Running) (callers : List Caller) (k : ℕ) (t : Tape) → Goes Stuck t ≡ Behind callers r.routine.frame r.is_task k Stuck t
  stuck_is r [] k t = refl
  stuck_is r (c ∷ others) k t = refl

  module _ (r : Running) (there : slice_get code.functions r.function ≡ Some r.routine) where
    -- behind the pieces 0 is returned
    zero_returned : (line end : ℕ) (mode : Mode) (stack : List ℕ) (t : Tape) → HasAt r.routine.body end (instr line (ops.Push (pos 0)) ∷ instr line ops.Ret ∷ []) → (k : ℕ)
        → From w code r end mode stack t (suc (suc k)) ≡ Behind r.callers r.routine.frame r.is_task k (Finished 0 r.base line) t
    zero_returned line end mode stack t has k =
        one_step w code r there (instr line (ops.Push (pos 0))) end mode stack t has.0 (suc k)
        ∙ one_step w code r there (instr line ops.Ret) (end + 1) mode (0 ∷ stack) t has.1.0 k
        ∙ ap (λ f. done w (exec w code k) Goes (on_function f (λ f. steps.returning code (activation_in r mode) r.callers line (end + 1) r.callers f 0)) t) there
        ∙ returns r.callers
      where
        returns : (callers : List Caller) → done w (exec w code k) Goes (steps.returning code (activation_in r mode) r.callers line (end + 1) callers r.routine 0) t ≡ Behind callers r.routine.frame r.is_task k (Finished 0 r.base line) t
        returns [] = refl
        returns (c ∷ others) = refl

    end_moves : (line end : ℕ) → HasAt r.routine.body end (instr line (ops.Push (pos 0)) ∷ instr line ops.Ret ∷ []) → (e : Exits) (t : Tape) (k : ℕ)
        → (j : ℕ) × (k ≤ j) × (Lands w code r end (both end) j e t ≡ Behind r.callers r.routine.frame r.is_task k (returned line r.base e) t)
    end_moves line end has (Falls mode stack) t k = (suc (suc k), omega arith, zero_returned line end mode stack t has k)
    end_moves line end has (Jumps Breaks mode stack) t k = (suc (suc k), omega arith, zero_returned line end mode stack t has k)
    end_moves line end has (Jumps Continues mode stack) t k = (suc (suc k), omega arith, zero_returned line end mode stack t has k)
    end_moves line end has (Returns cell l) t k = (k, omega arith, left_is r r.callers cell l k t)
    end_moves line end has Sticks t k = (k, omega arith, stuck_is r r.callers k t)

  abbrev running : ℕ → Function → Bool → List Caller → ℕ → Running
  running k f is_task callers base = record { function = k; routine = routine_of f; base = base; is_task = is_task; callers = callers }

  abbrev FollowsCalls : ℕ → Calls → Type 0
  FollowsCalls n calls = (r : Running) → slice_get code.functions r.function ≡ Some r.routine → CallsRun w code calls n r

  applied_runs : (n : ℕ) (calls : Calls) → FollowsCalls n calls → (k : ℕ) (f : Function) → slice_get code.functions k ≡ Some (routine_of f) → AreFound code f.body
      → (is_task : Bool) (callers : List Caller) (arguments : List ℕ) (line : ℕ) (t : Tape)
      → Runs n (λ j. steps.entering w (exec w code j) Goes k (routine_of f) is_task arguments line callers t) (Behind callers f.frame is_task) (applied w calls n f arguments line t)
  applied_runs n calls follows k f there found is_task callers arguments line t =
      runs_then (runs_asks (entered w (routine_of f) arguments line t) (λ j. refl)) (λ base t'. inside base t')
    where
      inside : (base : ℕ) (t : Tape) → Runs n (λ j. exec w code j (steps.inside k is_task callers base) t) (Behind callers f.frame is_task) (then_do (means w calls n base f.body Plain [] t) (λ e t'. Goes (returned f.end base e) t'))
      inside base t =
          let r = running k f is_task callers base in
          let ts = both (size f.body) in
          let has : HasAt (ended f.body f.end) 0 (ended f.body f.end) = has_all (ended f.body f.end) [] in
          let here : 0 + size f.body ≡ size f.body = omega arith in
          let ran = piece_runs w code calls n r there (follows r there) f.body (both ground) ground found.finds 0 ts Plain [] t (has_front (ended f.body f.end) 0 (lower f.body 0 ts) _ has) in
          let last = subst (λ m. HasAt (ended f.body f.end) m (instr f.end (ops.Push (pos 0)) ∷ instr f.end ops.Ret ∷ [])) here (has_next (ended f.body f.end) f.body 0 ts _ has) in
          runs_then (lands_at w code r _ (size f.body) here ran) (λ e t'. record { by = end_moves r there f.end (size f.body) last e t' })

  module _ (fit : Fit p) where
    -- behind a function, its caller goes on
    gone_runs : (n : ℕ) (r : Running) (frame : ℕ) (is_task : Bool) (place : ℕ) (mode : Mode) (rest : List ℕ) (h : Halt) (t : Tape)
        → Runs n (λ k. Behind (record { activation = activation_in r mode; place = place; stack = rest } ∷ r.callers) frame is_task k h t) (Given w code r place mode rest) (gone w frame is_task h t)
    gone_runs n r frame is_task place mode rest (Finished cell base line) t =
        runs_then (runs_asks (left w base frame is_task line t) (λ k. refl)) (λ e t'. runs_done n (Given w code r place mode rest) (Some (given_back is_task cell)) t')
    gone_runs n r frame is_task place mode rest Stuck t = runs_done n (Given w code r place mode rest) None t

    called_runs : (n : ℕ) (calls : Calls) → FollowsCalls n calls → (r : Running) (f place : ℕ) (mode : Mode) (rest : List ℕ) (g : Routine) (o : Option Function) → slice_get p.functions f ≡ o → slice_get code.functions f ≡ Some g
        → (arguments : List ℕ) (line : ℕ) (t : Tape)
        → Runs n (λ k. steps.entering w (exec w code k) Goes f g false arguments line (record { activation = activation_in r mode; place = place; stack = rest } ∷ r.callers) t) (Given w code r place mode rest) (called w calls n o arguments line t)
    called_runs n calls follows r f place mode rest g None at there arguments line t =
        let none : slice_get code.functions f ≡ None = code_at p.functions f ∙ ap routine_at at in absurd cc
    called_runs n calls follows r f place mode rest g (Some f') at there arguments line t =
        let there' : slice_get code.functions f ≡ Some (routine_of f') = code_at p.functions f ∙ ap routine_at at in
        let same : routine_of f' ≡ g = cc in
        let cs : List Caller = record { activation = activation_in r mode; place = place; stack = rest } ∷ r.callers in
        subst (λ g. Runs n (λ k. steps.entering w (exec w code k) Goes f g false arguments line cs t) (Given w code r place mode rest) (called w calls n (Some f') arguments line t)) same
        (runs_then (applied_runs n calls follows f f' there' (fit f f' at) false cs arguments line t) (gone_runs n r f'.frame false place mode rest))

    -- behind the call of a task, by the world's reply
    behind_runs : (n : ℕ) (calls : Calls) → FollowsCalls n calls → (r : Running) (f place : ℕ) (mode : Mode) (rest : List ℕ) (f' : Function) → slice_get p.functions f ≡ Some f' → slice_get code.functions f ≡ Some (routine_of f')
        → (arguments : List ℕ) (line reply : ℕ) (t : Tape)
        → Runs n (λ k. steps.behind_call w (exec w code k) Goes reply f (routine_of f') arguments line (record { activation = activation_in r mode; place = place; stack = rest } ∷ r.callers) (At (activation_in r mode) r.callers place (0 ∷ rest)) t)
        (Given w code r place mode rest) (behind_call w calls n f' arguments line reply t)
    behind_runs n calls follows r f place mode rest f' at there arguments line zero t =
        runs_then (runs_asks (ask w dialogue.Returns line t) (λ k. refl)) (λ e t'. runs_done n (Given w code r place mode rest) (Some 0) t')
    behind_runs n calls follows r f place mode rest f' at there arguments line (suc reply) t =
        let cs : List Caller = record { activation = activation_in r mode; place = place; stack = rest } ∷ r.callers in
        runs_then (applied_runs n calls follows f f' there (fit f f' at) true cs arguments line t) (gone_runs n r f'.frame true place mode rest)

    submitted_runs : (n : ℕ) (calls : Calls) → FollowsCalls n calls → (r : Running) (f place : ℕ) (mode : Mode) (rest : List ℕ) (g : Routine) (s : Shape) (o : Option Function) → slice_get p.functions f ≡ o → slice_get code.functions f ≡ Some g → g.task ≡ Some s
        → (arguments dimensions : List ℕ) (line : ℕ) (t : Tape)
        → Runs n (λ k. done w (exec w code k) Goes (steps.Submits (call_of f g s arguments dimensions r.base) f g arguments line (record { activation = activation_in r mode; place = place; stack = rest } ∷ r.callers) (At (activation_in r mode) r.callers place (0 ∷ rest))) t)
        (Given w code r place mode rest) (submitted w calls n f o arguments dimensions r.base line t)
    submitted_runs n calls follows r f place mode rest g s None at there task arguments dimensions line t =
        let none : slice_get code.functions f ≡ None = code_at p.functions f ∙ ap routine_at at in absurd cc
    submitted_runs n calls follows r f place mode rest g s (Some f') at there task arguments dimensions line t =
        let there' : slice_get code.functions f ≡ Some (routine_of f') = code_at p.functions f ∙ ap routine_at at in
        let same : routine_of f' ≡ g = cc in
        let is : f'.task ≡ Some s = ap (λ g. g.task) same ∙ task in
        let cs : List Caller = record { activation = activation_in r mode; place = place; stack = rest } ∷ r.callers in
        subst (λ g. Runs n (λ k. done w (exec w code k) Goes (steps.Submits (call_of f g s arguments dimensions r.base) f g arguments line cs (At (activation_in r mode) r.callers place (0 ∷ rest))) t) (Given w code r place mode rest) (submitted w calls n f (Some f') arguments dimensions r.base line t)) same
        (subst (λ x. Runs n (λ k. done w (exec w code k) Goes (steps.Submits (call_of f (routine_of f') s arguments dimensions r.base) f (routine_of f') arguments line cs (At (activation_in r mode) r.callers place (0 ∷ rest))) t) (Given w code r place mode rest) (submitted_as w calls n f f' x arguments dimensions r.base line t)) (sym is)
        (runs_then (runs_asks (ask w (dialogue.Calls (call_of f (routine_of f') s arguments dimensions r.base)) line t) (λ k. refl))
        (λ reply t'. behind_runs n calls follows r f place mode rest f' at there' arguments line reply t')))

    pub calls_run : (n : ℕ) → FollowsCalls n (calls_of w p.functions n)
    calls_run zero r there = record {
      call = λ line f count place mode stack t takes enough has. record { by = (0, omega arith, refl) };
      submit = λ line f count dims place mode stack t task has_dims has_args has. record { by = (0, omega arith, refl) };
    }
    calls_run (suc n) r there = record {
      call = λ line f count place mode stack t takes enough has.
          let cs : List Caller = record { activation = activation_in r mode; place = place + 1; stack = drop count stack } ∷ r.callers in
          runs_step (λ k. steps.entering w (exec w code k) Goes f takes.0 false (reverse (take count stack)) line cs t)
          (λ k. one_step w code r there (instr line (ops.Call f)) place mode stack t has k
          ∙ ap (λ x. done w (exec w code k) Goes (on_function x (λ g. steps.on_many (length g.parameters) stack (λ arguments rest. steps.Enters f g false arguments line (steps.waiting code (activation_in r mode) r.callers line place rest ∷ r.callers)))) t) takes.1
          ∙ ap (λ c. done w (exec w code k) Goes (steps.on_many c stack (λ arguments rest. steps.Enters f takes.0 false arguments line (steps.waiting code (activation_in r mode) r.callers line place rest ∷ r.callers))) t) takes.2
          ∙ ap (λ b. done w (exec w code k) Goes (if b then steps.Enters f takes.0 false (reverse (take count stack)) line cs else steps.Halts Stuck) t) enough)
          (called_runs n (calls_of w p.functions n) (calls_run n) r f (place + 1) mode (drop count stack) takes.0 (slice_get p.functions f) refl takes.1 (reverse (take count stack)) line t);
      submit = λ line f count dims place mode stack t task has_dims has_args has.
          let under = drop dims stack in
          let cs : List Caller = record { activation = activation_in r mode; place = place + 1; stack = drop count under } ∷ r.callers in
          let next : State = At (activation_in r mode) r.callers (place + 1) (0 ∷ drop count under) in
          runs_step (λ k. done w (exec w code k) Goes (steps.Submits (call_of f task.0 task.1 (reverse (take count under)) (reverse (take dims stack)) r.base) f task.0 (reverse (take count under)) line cs next) t)
          (λ k. one_step w code r there (instr line (ops.Submit f)) place mode stack t has k
          ∙ ap (λ s. done w (exec w code k) Goes s t) (submit_step w code r there line f count dims place mode stack task
          ∙ ap (λ b. SubmitBy w code r there b (nat_le count (length under)) line f place mode task.0 task.1 dims count stack) has_dims
          ∙ ap (λ c. SubmitBy w code r there true c line f place mode task.0 task.1 dims count stack) has_args))
          (submitted_runs n (calls_of w p.functions n) (calls_run n) r f (place + 1) mode (drop count under) task.0 task.1 (slice_get p.functions f) refl task.2 task.4 (reverse (take count under)) (reverse (take dims stack)) line t);
    }

    -- a function from its entry on
    pub begun_runs : (n k : ℕ) (o : Option Function) → slice_get p.functions k ≡ o → (arguments : List ℕ) (line : ℕ) (t : Tape)
        → Runs n (λ j. exec w code j (Begin k arguments line) t) (λ j h t'. Goes h t') (begun w p.functions n o arguments line t)
    begun_runs n k None at arguments line t =
        let none : slice_get code.functions k ≡ None = code_at p.functions k ∙ ap routine_at at in
        runs_less (runs_step (λ j. Goes Stuck t) (λ j. ap (λ x. done w (exec w code j) Goes (on_function x (λ f. steps.Enters k f false arguments line [])) t) none) (runs_done n (λ j h t'. Goes h t') Stuck t))
    begun_runs n k (Some f) at arguments line t =
        let there : slice_get code.functions k ≡ Some (routine_of f) = code_at p.functions k ∙ ap routine_at at in
        runs_less (runs_step (λ j. steps.entering w (exec w code j) Goes k (routine_of f) false arguments line [] t)
        (λ j. ap (λ x. done w (exec w code j) Goes (on_function x (λ f. steps.Enters k f false arguments line [])) t) there)
        (runs_moves (Behind [] f.frame false) ends (applied_runs n (calls_of w p.functions n) (calls_run n) k f there (fit k f at) false [] arguments line t)))
      where
        ends : (h : Halt) (t : Tape) (j : ℕ) → (i : ℕ) × (j ≤ i) × (Behind [] f.frame false i h t ≡ Goes h t)
        ends (Finished cell base l) t j = (j, omega arith, refl)
        ends Stuck t j = (j, omega arith, refl)

-- ---- both ways

-- a run that is over
abbrev IsOver : {A : Type 0} → Outcome A → Type 0
IsOver (Goes a t) = Unit {0}
IsOver (Stops (Stopped stop line) t) = Unit {0}
IsOver (Stops Tired t) = ⊥

over_stays : {A : Type 0} (o q : Outcome A) → IsOver o → Extends o q → q ≡ o
over_stays (Goes a t) q over e = e
over_stays (Stops (Stopped stop line) t) q over e = e
over_stays (Stops Tired t) q over e = absurd over

-- a machine that follows a dialogue as far as its fuel reaches
module _ (from to : ℕ → Outcome Halt) (longer : (n m : ℕ) → Extends (to n) (to (n + m))) (follows : (n : ℕ) → Runs n to (λ k h t. Goes h t) (from n)) where
  reached : (n : ℕ) (o : Outcome Halt) → RunsTo n to (λ k h t. Goes h t) o → (j : ℕ) × (n ≤ j) × (to j ≡ o)
  reached n (Goes h t) ran = ran n
  reached n (Stops why t) ran = ran

  over_too : (n : ℕ) (o : Outcome Halt) → IsOver o → to n ≡ o → from n ≡ o
  over_too n o over e =
      let there = reached n (from n) (follows n).by in
      let m : n + (there.0 - n) ≡ there.0 = omega (arith, there.1) in
      let stays : to (n + (there.0 - n)) ≡ to n = over_stays (to n) (to (n + (there.0 - n))) (subst IsOver (sym e) over) (longer n (there.0 - n)) in
      sym there.2 ∙ sym (ap to m) ∙ stays ∙ e

  abbrev Reached : ℕ → Outcome Halt → Type 0
  Reached n o = (j : ℕ) × (n ≤ j) × (to j ≡ o)

  reaches : (n : ℕ) (o : Outcome Halt) → from n ≡ o → Reached n o
  reaches n o e = subst (Reached n) e (reached n (from n) (follows n).by)

  pub same_dialogue : SameDialogue from to
  same_dialogue = record {
    ends = λ n a t e. let there = reaches n (Goes a t) e in (there.0, there.2);
    stops = λ n stop line t e. let there = reaches n (Stops (Stopped stop line) t) e in (there.0, there.2);
    goes_on = λ n t e. reaches n (Stops Tired t) e;
    ends_only = λ n a t e. (n, over_too n (Goes a t) tt e);
    stops_only = λ n stop line t e. (n, over_too n (Stops (Stopped stop line) t) tt e);
  }

-- ---- behind a run

is_over_then : {A B : Type 0} (o : Outcome A) (go : A → Tape → Outcome B) → IsOver o → ((a : A) (t : Tape) → IsOver (go a t)) → IsOver (then_do o go)
is_over_then (Goes a t) go over next = next a t
is_over_then (Stops (Stopped stop line) t) go over next = tt
is_over_then (Stops Tired t) go over next = absurd over

is_over_reply : (reply : Reply) (i : Item) (t : Tape) → IsOver (replied reply i t)
is_over_reply (Says value) i t = tt
is_over_reply Fails i t = tt
is_over_reply (Refuses rule) i t = tt

is_over_ask : (w : World) (action : Action) (line : ℕ) (t : Tape) → IsOver (ask w action line t)
is_over_ask w action line t = is_over_reply (w t (item action line)) (item action line) t

is_over_finish : (b : Bool) (w : World) (line : ℕ) (t : Tape) → IsOver (if b then ask w dialogue.Finish line t else Goes 0 t)
is_over_finish true w line t = is_over_ask w dialogue.Finish line t
is_over_finish false w line t = tt

main_over : (w : World) (frame : ℕ) (h : Halt) (t : Tape) → IsOver (main_ends w frame h t)
main_over w frame (Finished cell base line) t =
    is_over_then (finished w line t) _ (is_over_finish (is_started t) w line t) (λ r t'. is_over_then (ask w (dialogue.Leave base frame) line t') _ (is_over_ask w (dialogue.Leave base frame) line t')
    (λ r' t''. is_over_then (ask w (dialogue.End (int_of cell)) line t'') _ (is_over_ask w (dialogue.End (int_of cell)) line t'') (λ r'' t3. tt)))
main_over w frame Stuck t = tt

body_over : (w : World) (frame : ℕ) (h : Halt) (t : Tape) → IsOver (body_ends w frame h t)
body_over w frame (Finished cell base line) t =
    is_over_then (ask w (dialogue.Leave base frame) line t) _ (is_over_ask w (dialogue.Leave base frame) line t) (λ r t'. is_over_then (ask w dialogue.Returns line t') _ (is_over_ask w dialogue.Returns line t') (λ r' t''. tt))
body_over w frame Stuck t = tt

-- two that have the same dialogue have it with something behind them that comes to an end
module _ {A B : Type 0} (go : A → Tape → Outcome B) (comes : (a : A) (t : Tape) → IsOver (go a t)) where
  ends_too : (f g : ℕ → Outcome A) → ((n : ℕ) (a : A) (t : Tape) → f n ≡ Goes a t → (m : ℕ) × (g m ≡ Goes a t)) → ((n : ℕ) (stop : Stop) (line : ℕ) (t : Tape) → f n ≡ Stops (Stopped stop line) t → (m : ℕ) × (g m ≡ Stops (Stopped stop line) t))
      → (n : ℕ) (x : Outcome A) → f n ≡ x → (o : Outcome B) → IsOver o → then_do x go ≡ o → (m : ℕ) × (then_do (g m) go ≡ o)
  ends_too f g ends stops n (Goes a t) e o over h = let r = ends n a t e in (r.0, ap (λ x. then_do x go) r.1 ∙ h)
  ends_too f g ends stops n (Stops (Stopped stop line) t) e o over h = let r = stops n stop line t e in (r.0, ap (λ x. then_do x go) r.1 ∙ h)
  ends_too f g ends stops n (Stops Tired t) e o over h = absurd (subst IsOver (sym h) over)

  tires_too : (f g : ℕ → Outcome A) → SameDialogue f g → (n : ℕ) (x : Outcome A) → f n ≡ x → (t : Tape) → then_do x go ≡ Stops Tired t → (m : ℕ) × (n ≤ m) × (then_do (g m) go ≡ Stops Tired t)
  tires_too f g same n (Goes a t') e t h = absurd (subst IsOver h (comes a t'))
  tires_too f g same n (Stops (Stopped stop line) t') e t h = cc
  tires_too f g same n (Stops Tired t') e t h = let r = same.goes_on n t' e in (r.0, r.1, ap (λ x. then_do x go) r.2 ∙ h)

  pub same_then : (f g : ℕ → Outcome A) → SameDialogue f g → SameDialogue (λ n. then_do (f n) go) (λ n. then_do (g n) go)
  same_then f g same = record {
    ends = λ n a t h. ends_too f g same.ends same.stops n (f n) refl (Goes a t) tt h;
    stops = λ n stop line t h. ends_too f g same.ends same.stops n (f n) refl (Stops (Stopped stop line) t) tt h;
    goes_on = λ n t h. tires_too f g same n (f n) refl t h;
    ends_only = λ n a t h. ends_too g f same.ends_only same.stops_only n (g n) refl (Goes a t) tt h;
    stops_only = λ n stop line t h. ends_too g f same.ends_only same.stops_only n (g n) refl (Stops (Stopped stop line) t) tt h;
  }

each_behaves : (p : Program) → Fit p → (w : World) (k : ℕ) (arguments : List ℕ) (line : ℕ) (t : Tape) → SameDialogue (run_of w p k arguments line t) (λ n. exec w (code_of p) n (Begin k arguments line) t)
each_behaves p fit w k arguments line t =
    same_dialogue (run_of w p k arguments line t) (λ n. exec w (code_of p) n (Begin k arguments line) t)
    (λ n m. extends_exec w (code_of p) n m (Begin k arguments line) t) (λ n. begun_runs w p fit n k (slice_get p.functions k) refl arguments line t)

pub behaves : (p : Program) → Fit p → Behaves p (code_of p)
behaves p fit = record {
  each = each_behaves p fit;
  main = λ w.
      let f = slice_get (code_of p).functions p.main in
      same_then (main_ends w (frame_of f)) (main_over w (frame_of f)) (run_of w p p.main [] (entry_line f) []) (λ n. exec w (code_of p) n (Begin p.main [] (entry_line f)) []) (each_behaves p fit w p.main [] (entry_line f) []);
  bodies = λ w k arguments line.
      let f = slice_get (code_of p).functions k in
      same_then (body_ends w (frame_of f)) (body_over w (frame_of f)) (run_of w p k arguments line []) (λ n. exec w (code_of p) n (Begin k arguments line) []) (each_behaves p fit w k arguments line []);
}

-- ---- tapes

pub tapes_grow : (p : Program) → Fit p → (w : World) (k : ℕ) (arguments : List ℕ) (line : ℕ) (t : Tape) (n : ℕ) → Grows t (run_of w p k arguments line t n)
tapes_grow p fit w k arguments line t n =
    let r = reached (run_of w p k arguments line t) (λ n. exec w (code_of p) n (Begin k arguments line) t)
    (λ n m. extends_exec w (code_of p) n m (Begin k arguments line) t) (λ n. begun_runs w p fit n k (slice_get p.functions k) refl arguments line t)
    n (run_of w p k arguments line t n) (begun_runs w p fit n k (slice_get p.functions k) refl arguments line t).by in
    subst (Grows t) r.2 (grows_exec w (code_of p) r.0 (Begin k arguments line) t)
