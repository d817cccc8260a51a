-- The machine follows functions, and calls of them.
use Rattle.std.proofs.Common.{◌≡◌, ℕ, zero, suc, ◌+◌, ◌%◌, ◌^◌, ◌<◌, Bool, true, false, ◌&&◌, if◌then◌else◌, List, [], ◌∷◌, ◌++◌, length, All, Option, Some, None, refl, sym, ap, ◌∙◌, subst, arith, length-append}
use Rattle.std.specs.Prelude.{slice_get}
use Rattle.std.proofs.lemmas.Bool.{le-leb}
use Rattle.css_semantics.specs.Memory.{big_endian_bytes}
use Rattle.css_semantics.specs.Tasks.{is_started}
use Rattle.css_semantics.specs.Dialogue.{Enter, Leave, Store, Returns, Tape, World, Outcome, Goes, Stops, then_do, ask}
use Rattle.css_semantics.specs.Dialogue as dialogue
use Rattle.css_vm.specs.declared.code.Instr.{Instr}
use Rattle.css_vm.specs.declared.code.Op.TheVariants as ops
use Rattle.css_vm.specs.declared.code.MarkKind.TheVariants as marks
use Rattle.css_vm.specs.Code.{Shape, Routine, Code, all_dimensions, call_of}
use Rattle.css_vm.specs.Cells.{cell_of, truth}
use Rattle.css_vm.specs.Machine as machine
use Rattle.css_vm.specs.Machine.{Halt, Activation, Caller, At, On, on_function, on_many, on_task, entered, calling, go_on, exec}
use Rattle.css_small.specs.Tree.{Function}
use Rattle.css_small.specs.Numbers.{IsNumbered}
use Rattle.css_small_code.specs.Code.{statements_code, end_code, call_code, is_task_there, body_code, task_shape, function_code}
use Rattle.css_small_code.specs.Meaning as meaning
use Rattle.css_small_code.specs.Meaning.{place_of, address_of, frame_of, meanings, Calling, Exit, exit_by, applied, left, plain_call, task_call_of, task_body, calls}
use Rattle.css_small_code.proofs.Runs.{Run, Landing, Runs, runs_done, runs_counted, runs_as, runs_asks, runs_then, runs_behind, then_assoc}
use Rattle.css_small_code.proofs.Places.{scope_of, item_at, holds_at}
use Rattle.css_small_code.proofs.Stands.{Stands, stands_front, stands_back, stands_whole}
use Rattle.css_small_code.proofs.LineStands.{OpsStand}
use Rattle.css_small_code.proofs.Steps.{Running, state, From, OpAt, effect_at, one_step, runs_quiet}
use Rattle.css_small_code.proofs.Exits.{Exiting, leaves, activation_at}
use Rattle.css_small_code.proofs.StatementRuns.{CallsRun, statements_run}
use Rattle.css_small_code.proofs.CellsElements.{bytes_of-address}

-- the parts of a function's body stand in it
pub body_stands : (functions : List Function) (f : Function) (entry : List Instr) → Stands (body_code functions f entry) 0 entry × Stands (body_code functions f entry) (length entry) (statements_code functions f.body (length entry)) × Stands (body_code functions f entry) (length entry + length (statements_code functions f.body (length entry))) (end_code f.end)
body_stands functions f entry =
    let at = length entry in
    let body = statements_code functions f.body at in
    let last = end_code f.end in
    let all = body_code functions f entry in
    let whole = stands_whole all in
    let front = stands_front all 0 (entry ++ body) last whole in
    let here : 0 + length entry ≡ length entry = omega arith in
    let there : 0 + length (entry ++ body) ≡ at + length body = omega (arith, length-append entry body) in
    (stands_front all 0 entry body front, subst (λ k. Stands all k body) here (stands_back all 0 entry body front), subst (λ k. Stands all k last) there (stands_back all 0 (entry ++ body) last whole))

module _ (w : World) (code : Code) where
  -- a function's body behind its entry's code, where calls run
  pub body_runs : (here : Running code) (functions : List Function) (f : Function) (call : Calling) (n at : ℕ) (t : Tape) → IsNumbered (length functions) f →
      Stands here.routine.body at (statements_code functions f.body at) → Stands here.routine.body (at + length (statements_code functions f.body at)) (end_code f.end) →
      CallsRun w code here call functions (length functions) n →
      Runs n (From w code here at [] t) (Exiting w code here.activation.function here.activation.is_task here.callers here.routine)
      (then_do (meanings w call here.activation.base n f.body t) (λ flow t'. Goes (exit_by here.activation.base f.end flow) t'))
  body_runs here functions f call n at t numbers body end run =
      let scope = scope_of (length functions) f in
      runs_then (statements_run w code here call functions scope n run f.body at [] t numbers.within body)
      (λ flow t'. leaves w code here n flow f.end (at + length (statements_code functions f.body at)) [] t' end)

  -- A function from its entry, by what is stored of its arguments and by its body.
  pub applied_runs : (number : ℕ) (is_task : Bool) (callers : List Caller) (r : Routine) (f : Function) (call : Calling) (n : ℕ) (cells arguments : List ℕ) (line : ℕ) (t : Tape) → r.frame ≡ frame_of f →
      ((base : ℕ) (t' : Tape) → machine.stores w base r.parameters cells line t' ≡ meaning.stores w base 0 arguments line t') →
      ((base : ℕ) (t' : Tape) → Runs n (λ k. exec w code k (At (activation_at w code number is_task callers r base) callers 0 []) t') (Exiting w code number is_task callers r)
      (then_do (meanings w call base n f.body t') (λ flow t''. Goes (exit_by base f.end flow) t''))) →
      Runs n (λ k. then_do (entered w r cells line t) (λ base t'. exec w code k (At (activation_at w code number is_task callers r base) callers 0 []) t')) (Exiting w code number is_task callers r)
      (applied w call n f arguments line t)
  applied_runs number is_task callers r f call n cells arguments line t frame same body =
      let starts = λ (k base : ℕ) (t' : Tape). exec w code k (At (activation_at w code number is_task callers r base) callers 0 []) t' in
      let enters = λ (size : ℕ). ask w (Enter size) line t in
      let stored = λ (base : ℕ) (t' : Tape). machine.stores w base r.parameters cells line t' in
      let behind = λ (k base : ℕ) (t' : Tape). then_do (meaning.stores w base 0 arguments line t') (λ r' t''. starts k base t'') in
      let inside = λ (base : ℕ) (t' : Tape). then_do (meanings w call base n f.body t') (λ flow t''. Goes (exit_by base f.end flow) t'') in
      let asked = λ (k : ℕ). then_assoc (enters r.frame) (λ base t'. then_do (stored base t') (λ r' t''. Goes base t'')) (starts k) in
      runs_then {go = λ base t'. then_do (meaning.stores w base 0 arguments line t') (λ r' t''. inside base t'')}
      (runs_asks {land = λ k base t'. then_do (then_do (stored base t') (λ r' t''. Goes base t'')) (starts k)} (enters (frame_of f)) (λ k. asked k ∙ ap (λ size. then_do (enters size) (λ base t'. then_do (then_do (stored base t') (λ r' t''. Goes base t'')) (starts k))) frame))
      (λ base t'. runs_then (runs_asks {land = λ k r' t''. starts k base t''} (meaning.stores w base 0 arguments line t') (λ k. then_assoc (stored base t') (λ r' t''. Goes base t'') (starts k) ∙ ap (λ o. then_do o (λ r' t''. starts k base t'')) (same base t'))) (λ r' t''. body base t''))

-- no cells, and one, of those on a stack
none_of_many : (stack : List ℕ) (t : Tape) (go : List ℕ → List ℕ → Outcome machine.After) → on_many 0 stack t go ≡ go [] stack
none_of_many stack t go = ap (λ b. if b then go [] stack else machine.stuck t) (le-leb 0 (length stack) (omega arith))

one_of_many : (cell : ℕ) (rest : List ℕ) (t : Tape) (go : List ℕ → List ℕ → Outcome machine.After) → on_many 1 (cell ∷ rest) t go ≡ go (cell ∷ []) rest
one_of_many cell rest t go = ap (λ b. if b then go (cell ∷ []) rest else machine.stuck t) (le-leb 1 (length (cell ∷ rest)) (omega arith))

-- no function is named, so each meaning of calls runs
no_calls : (w : World) (code : Code) (here : Running code) (call : Calling) (functions : List Function) (n : ℕ) → CallsRun w code here call functions 0 n
no_calls w code here call functions n = record { by = λ number k line place stack t below h. absurd (omega (arith, below)) }

-- an argument is stored at the front of the frame
one_stored : (w : World) (base cell argument line : ℕ) (t : Tape) → big_endian_bytes 4 cell ≡ big_endian_bytes 4 argument → machine.stores w base (4 ∷ []) (cell ∷ []) line t ≡ meaning.stores w base 0 (argument ∷ []) line t
one_stored w base cell argument line t same =
    let first : base % 2 ^ 32 ≡ address_of base 0 = ap (λ a. a % 2 ^ 32) (let e : base ≡ base + place_of 0 = omega arith in e) in
    ap (λ a. then_do (ask w (Store a (big_endian_bytes 4 cell)) line t) (λ r t'. Goes 0 t')) first
    ∙ ap (λ bytes. then_do (ask w (Store (address_of base 0) bytes) line t) (λ r t'. Goes 0 t')) same

module _ (w : World) (code : Code) (functions : List Function) (numbers : All (λ f. (f.parameters ≡ 1) × IsNumbered 0 f) functions) (there : (k : ℕ) (f : Function) → slice_get functions k ≡ Some f → slice_get code.functions k ≡ Some (function_code f)) where
  -- a function that gets a pointer, whatever calls mean
  pub function_runs : (number : ℕ) (is_task : Bool) (callers : List Caller) (f : Function) (call : Calling) (n cell argument line : ℕ) (t : Tape) → slice_get functions number ≡ Some f → IsNumbered 0 f → big_endian_bytes 4 cell ≡ big_endian_bytes 4 argument →
      Runs n (λ k. then_do (entered w (function_code f) (cell ∷ []) line t) (λ base t'. exec w code k (At (activation_at w code number is_task callers (function_code f) base) callers 0 []) t')) (Exiting w code number is_task callers (function_code f))
      (applied w call n f (argument ∷ []) line t)
  function_runs number is_task callers f call n cell argument line t found known bytes =
      let r = function_code f in
      let parts = body_stands [] f [] in
      applied_runs w code number is_task callers r f call n (cell ∷ []) (argument ∷ []) line t refl (λ base t'. one_stored w base cell argument line t' bytes) (λ base t'.
      let here : Running code = record { activation = activation_at w code number is_task callers r base; callers = callers; routine = r; found = there number f found } in
      body_runs w code here [] f call n 0 t' known parts.1 parts.2 (no_calls w code here call [] n))

  module _ (here : Running code) (number : ℕ) (f : Function) (found : slice_get functions number ≡ Some f) (known : IsNumbered 0 f) where
    -- at a place with a stack, whatever was replied
    abbrev Behind : ℕ → List ℕ → Landing Halt ℕ
    Behind place stack k r t = exec w code k (state w code here place stack) t

    -- the caller that waits for a cell at a place
    abbrev waiting : ℕ → List ℕ → List Caller
    waiting place stack = record { activation = here.activation; place = place; stack = stack } ∷ here.callers

    -- the return of a plain call leaves its frame
    plain_returns : (n at : ℕ) (stack : List ℕ) (exit : Exit) (t : Tape) → Runs n (λ k. Exiting w code number false (waiting at stack) (function_code f) k exit t) (Behind at (cell_of exit.value ∷ stack)) (left w (frame_of f) exit t)
    plain_returns n at stack exit t =
        let leaving = left w (frame_of f) exit t in
        let back = λ (r : ℕ) (t' : Tape). Goes (On (state w code here at (cell_of exit.value ∷ stack))) t' in
        runs_asks leaving (λ k. then_assoc leaving back (go_on (exec w code k)))

    -- that of a task's body is the task's too
    task_returns : (n at : ℕ) (stack : List ℕ) (exit : Exit) (t : Tape) → Runs n (λ k. Exiting w code number true (waiting at stack) (function_code f) k exit t) (Behind at (0 ∷ stack))
        (then_do (left w (frame_of f) exit t) (λ r t'. ask w Returns exit.line t'))
    task_returns n at stack exit t =
        let leaving = left w (frame_of f) exit t in
        let returns = λ (t' : Tape). ask w Returns exit.line t' in
        let back = λ (r : ℕ) (t' : Tape). Goes (On (state w code here at (0 ∷ stack))) t' in
        runs_then (runs_asks {land = λ k r t'. then_do (then_do (returns t') back) (go_on (exec w code k))} leaving (λ k. then_assoc leaving (λ r t'. then_do (returns t') back) (go_on (exec w code k))))
        (λ r t'. runs_asks (returns t') (λ k. then_assoc (returns t') back (go_on (exec w code k))))

    -- the cell that a call returned with is dropped
    dropped : (n line at cell r : ℕ) (stack : List ℕ) (t : Tape) → OpAt w code here line at ops.Drop → Runs n (From w code here at (cell ∷ stack) t) (Behind (at + 1) stack) (Goes r t)
    dropped n line at cell r stack t h =
        runs_quiet w code here line ops.Drop (at + 1) stack h refl (runs_done n (Behind (at + 1) stack) r t)

    -- where the machine begins a call's body, and the step there
    abbrev begun : (is_task : Bool) (at : ℕ) (stack : List ℕ) → ℕ → Tape → Outcome machine.After
    begun is_task at stack base t = Goes (On (At (activation_at w code number is_task (waiting at stack) (function_code f) base) (waiting at stack) 0 [])) t

    -- a plain call, behind its argument
    plain_runs : (m : ℕ) (call : Calling) (cell argument line at : ℕ) (stack : List ℕ) (t : Tape) → big_endian_bytes 4 cell ≡ big_endian_bytes 4 argument → OpAt w code here line at (ops.Call number) → OpAt w code here line (at + 1) ops.Drop →
        Runs (suc m) (From w code here at (cell ∷ stack) t) (Behind (at + 1 + 1) stack) (plain_call w call m f argument line t)
    plain_runs m call cell argument line at stack t bytes calls drops =
        let enters = entered w (function_code f) (cell ∷ []) line t in
        let after = begun false (at + 1) stack in
        let does : effect_at w code here line at (ops.Call number) (cell ∷ stack) t ≡ then_do enters after =
        ap (λ g. on_function g t (λ f. on_many (length f.parameters) (cell ∷ stack) t (λ arguments rest. calling w code here.activation here.callers line at number f false arguments rest t))) (there number f found)
        ∙ one_of_many cell stack t (λ arguments rest. calling w code here.activation here.callers line at number (function_code f) false arguments rest t) in
        runs_counted (λ k. then_do enters (λ base t'. go_on (exec w code k) (On (At (activation_at w code number false (waiting (at + 1) stack) (function_code f) base) (waiting (at + 1) stack) 0 [])) t'))
        (λ k. one_step w code here line (ops.Call number) at (cell ∷ stack) t (then_do enters after) calls does k ∙ then_assoc enters after (go_on (exec w code k)))
        (runs_then (function_runs number false (waiting (at + 1) stack) f call m cell argument line t found known bytes) (λ exit t'.
        runs_behind (plain_returns m (at + 1) stack exit t') (λ r t''. dropped m line (at + 1) (cell_of exit.value) r stack t'' drops)))

    -- behind a task's call, by the world's reply
    replied_runs : (m : ℕ) (call : Calling) (cell line at to reply : ℕ) (stack : List ℕ) (t : Tape) → OpAt w code here line (at + 1) (ops.Jump to) → OpAt w code here line to ops.Drop →
        Runs m (λ k. then_do (machine.called w code here.activation here.callers line at number (function_code f) (cell ∷ []) stack reply t) (go_on (exec w code k))) (Behind (to + 1) stack) (task_body w call m f (cell % 2 ^ 32) line reply t)
    replied_runs m call cell line at to zero stack t jumps drops =
        let returns = ask w Returns line t in
        let back = λ (r : ℕ) (t' : Tape). Goes (On (state w code here (at + 1) (0 ∷ stack))) t' in
        runs_behind (runs_asks {land = Behind (at + 1) (0 ∷ stack)} returns (λ k. then_assoc returns back (go_on (exec w code k))))
        (λ r t'. runs_quiet w code here line (ops.Jump to) to (0 ∷ stack) jumps refl (dropped m line to 0 r stack t' drops))
    replied_runs m call cell line at to (suc reply) stack t jumps drops =
        let enters = entered w (function_code f) (cell ∷ []) line t in
        let after = begun true (at + 1) stack in
        runs_as (λ k. then_do enters (λ base t'. go_on (exec w code k) (On (At (activation_at w code number true (waiting (at + 1) stack) (function_code f) base) (waiting (at + 1) stack) 0 [])) t'))
        (λ k. then_assoc enters after (go_on (exec w code k)))
        (runs_then (function_runs number true (waiting (at + 1) stack) f call m cell (cell % 2 ^ 32) line t found known (bytes_of-address cell)) (λ exit t'.
        runs_behind (task_returns m (at + 1) stack exit t') (λ r t''. runs_quiet w code here line (ops.Jump to) to (0 ∷ stack) jumps refl (dropped m line to 0 r stack t'' drops))))

    -- a task's call where tasks are made, behind its argument
    task_runs : (m : ℕ) (call : Calling) (cell line at to : ℕ) (stack : List ℕ) (t : Tape) → f.is_task ≡ true → OpAt w code here line at (ops.Submit number) → OpAt w code here line (at + 1) (ops.Jump to) → OpAt w code here line to ops.Drop →
        Runs (suc m) (From w code here at (cell ∷ stack) t) (Behind (to + 1) stack)
        (then_do (ask w (dialogue.Calls (task_call_of number (cell % 2 ^ 32) here.activation.base)) line t) (task_body w call m f (cell % 2 ^ 32) line))
    task_runs m call cell line at to stack t is_task submits jumps drops =
        let a = here.activation in
        let asked = ask w (dialogue.Calls (task_call_of number (cell % 2 ^ 32) a.base)) line t in
        let after = λ (r : ℕ) (t' : Tape). machine.called w code a here.callers line at number (function_code f) (cell ∷ []) stack r t' in
        let with_shape = λ (g : Routine) (s : Shape). on_many (all_dimensions s.arguments) (cell ∷ stack) t (λ dimensions below. on_many (length g.parameters) below t (λ arguments rest.
        then_do (ask w (dialogue.Calls (call_of number g s arguments dimensions a.base)) line t) (λ r t'. machine.called w code a here.callers line at number g arguments rest r t'))) in
        let asks = λ (dimensions arguments rest : List ℕ). then_do (ask w (dialogue.Calls (call_of number (function_code f) task_shape arguments dimensions a.base)) line t) (λ r t'. machine.called w code a here.callers line at number (function_code f) arguments rest r t') in
        let does : effect_at w code here line at (ops.Submit number) (cell ∷ stack) t ≡ then_do asked after =
        ap (λ g. on_function g t (λ f. on_task f.task t (with_shape f))) (there number f found) ∙ ap (λ b. on_task (if b then Some task_shape else None) t (with_shape (function_code f))) is_task
        ∙ none_of_many (cell ∷ stack) t (λ dimensions below. on_many 1 below t (asks dimensions))
        ∙ one_of_many cell stack t (asks []) in
        runs_counted (λ k. then_do asked (λ r t'. then_do (after r t') (go_on (exec w code k))))
        (λ k. one_step w code here line (ops.Submit number) at (cell ∷ stack) t (then_do asked after) submits does k ∙ then_assoc asked after (go_on (exec w code k)))
        (runs_then (runs_asks {land = λ k r t'. then_do (after r t') (go_on (exec w code k))} asked (λ k. refl)) (λ reply t'. replied_runs m call cell line at to reply stack t' jumps drops))

    -- the place behind, under another name
    behind_at : {n : ℕ} {from : Run Halt} {stack : List ℕ} {o : Outcome ℕ} (place place' : ℕ) → place ≡ place' → Runs n from (Behind place stack) o → Runs n from (Behind place' stack) o
    behind_at {n = n} {from = from} {stack = stack} {o = o} place place' e r = subst (λ p. Runs n from (Behind p stack) o) e r

    -- a call's code, by whether the function is a task and tasks are made
    abbrev means : (m k line : ℕ) → Tape → Outcome ℕ
    means m k line t = meaning.called w (calls w functions m) m number (Some f) (address_of here.activation.base k) here.activation.base line t

    plain_call_runs : (m k line place : ℕ) (stack : List ℕ) (t : Tape) → f.is_task ≡ false → OpsStand here.routine.body line place (call_code false number k place) →
        Runs (suc m) (From w code here place stack t) (Behind (place + 3) stack) (means m k line t)
    plain_call_runs m k line place stack t isnt h =
        let base = here.activation.base in
        let cell = base + place_of k in
        let call = calls w functions m in
        let plain = plain_call w call m f (address_of base k) line t in
        let is : plain ≡ means m k line t = ap (λ b. if b && is_started t then then_do (ask w (dialogue.Calls (task_call_of number (address_of base k) base)) line t) (task_body w call m f (address_of base k) line) else plain) (sym isnt) in
        let same : place + 1 + 1 + 1 ≡ place + 3 = omega arith in
        behind_at (place + 1 + 1 + 1) (place + 3) same
        (subst (λ o. Runs (suc m) (From w code here place stack t) (Behind (place + 1 + 1 + 1) stack) o) is
        (runs_quiet w code here line (ops.Frame (place_of k)) (place + 1) (cell ∷ stack) h.0 refl (plain_runs m call cell (address_of base k) line (place + 1) stack t (bytes_of-address cell) h.1.0 h.1.1.0)))

    -- from the test whether tasks are made
    chosen_runs : (m k line place : ℕ) (stack : List ℕ) (t : Tape) (started : Bool) → f.is_task ≡ true → OpsStand here.routine.body line (place + 1 + 1) (ops.Jumpz (place + 5) ∷ ops.Submit number ∷ ops.Jump (place + 6) ∷ ops.Call number ∷ ops.Drop ∷ []) →
        (let base = here.activation.base in let argument = address_of base k in let call = calls w functions m in
        Runs (suc m) (From w code here (place + 1 + 1) (truth started ∷ (base + place_of k) ∷ stack) t) (Behind (place + 7) stack)
        (if started then then_do (ask w (dialogue.Calls (task_call_of number argument base)) line t) (task_body w call m f argument line) else plain_call w call m f argument line t))
    chosen_runs m k line place stack t true is_one h =
        let cell = here.activation.base + place_of k in
        let last : place + 1 + 1 + 1 + 1 + 1 + 1 ≡ place + 6 = omega arith in
        let drops = subst (λ p. OpAt w code here line p ops.Drop) last h.1.1.1.1.0 in
        let same : place + 6 + 1 ≡ place + 7 = omega arith in
        behind_at (place + 6 + 1) (place + 7) same
        (runs_quiet w code here line (ops.Jumpz (place + 5)) (place + 1 + 1 + 1) (cell ∷ stack) h.0 refl
        (task_runs m (calls w functions m) cell line (place + 1 + 1 + 1) (place + 6) stack t is_one h.1.0 h.1.1.0 drops))
    chosen_runs m k line place stack t false is_one h =
        let base = here.activation.base in
        let cell = base + place_of k in
        let at : place + 1 + 1 + 1 + 1 + 1 ≡ place + 5 = omega arith in
        let calls_there = subst (λ p. OpAt w code here line p (ops.Call number)) at h.1.1.1.0 in
        let drops = subst (λ p. OpAt w code here line (p + 1) ops.Drop) at h.1.1.1.1.0 in
        let same : place + 5 + 1 + 1 ≡ place + 7 = omega arith in
        behind_at (place + 5 + 1 + 1) (place + 7) same
        (runs_quiet w code here line (ops.Jumpz (place + 5)) (place + 5) (cell ∷ stack) h.0 refl
        (plain_runs m (calls w functions m) cell (address_of base k) line (place + 5) stack t (bytes_of-address cell) calls_there drops))

    task_call_runs : (m k line place : ℕ) (stack : List ℕ) (t : Tape) (started : Bool) → is_started t ≡ started → f.is_task ≡ true → OpsStand here.routine.body line place (call_code true number k place) →
        Runs (suc m) (From w code here place stack t) (Behind (place + 7) stack) (means m k line t)
    task_call_runs m k line place stack t started now is_one h =
        let base = here.activation.base in
        let cell = base + place_of k in
        let call = calls w functions m in
        let plain = plain_call w call m f (address_of base k) line t in
        let task = then_do (ask w (dialogue.Calls (task_call_of number (address_of base k) base)) line t) (task_body w call m f (address_of base k) line) in
        let is : (if started then task else plain) ≡ means m k line t = ap (λ b. if b then task else plain) (sym now) ∙ ap (λ b. if b && is_started t then task else plain) (sym is_one) in
        let marked = ap (λ s. Goes (On (state w code here (place + 1 + 1) (truth s ∷ cell ∷ stack))) t) now in
        subst (λ o. Runs (suc m) (From w code here place stack t) (Behind (place + 7) stack) o) is
        (runs_quiet w code here line (ops.Frame (place_of k)) (place + 1) (cell ∷ stack) h.0 refl
        (runs_quiet w code here line (ops.Mark marks.Started) (place + 1 + 1) (truth started ∷ cell ∷ stack) h.1.0 marked
        (chosen_runs m k line place stack t started is_one h.1.1)))

    pub call_runs : (m k line place : ℕ) (stack : List ℕ) (t : Tape) (is_task : Bool) → f.is_task ≡ is_task → OpsStand here.routine.body line place (call_code is_task number k place) →
        Runs (suc m) (From w code here place stack t) (Behind (place + length (call_code is_task number k place)) stack) (means m k line t)
    call_runs m k line place stack t false isnt h = plain_call_runs m k line place stack t isnt h
    call_runs m k line place stack t true is_one h = task_call_runs m k line place stack t (is_started t) refl is_one h

  found_runs : (here : Running code) (m number k line place : ℕ) (stack : List ℕ) (t : Tape) (g : Option Function) → slice_get functions number ≡ g → number < length functions → OpsStand here.routine.body line place (call_code (is_task_there g) number k place) →
      Runs (suc m) (From w code here place stack t) (λ k' r t'. exec w code k' (state w code here (place + length (call_code (is_task_there g) number k place)) stack) t')
      (meaning.called w (calls w functions m) m number g (address_of here.activation.base k) here.activation.base line t)
  found_runs here m number k line place stack t None found below h =
      let one = item_at functions number below in
      let none : None ≡ Some one.0 = sym found ∙ one.1 in
      cc
  found_runs here m number k line place stack t (Some f) found below h =
      call_runs here number f found (holds_at (λ f. (f.parameters ≡ 1) × IsNumbered 0 f) functions number f numbers found).1 m k line place stack t f.is_task refl h

  -- what calls of these functions mean, the machine does
  pub calls_run : (n : ℕ) (here : Running code) → CallsRun w code here (calls w functions n) functions (length functions) n
  calls_run zero here = record { by = λ number k line place stack t below h. record { by = (0, omega arith, refl) } }
  calls_run (suc m) here = record { by = λ number k line place stack t below h. found_runs here m number k line place stack t (slice_get functions number) refl below h }
