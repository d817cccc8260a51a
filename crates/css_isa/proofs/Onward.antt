-- The steps of sound code lead to places of its plans, and it is never stuck.
use Rattle.std.proofs.Common.{◌≡◌, ◌∙◌, ℕ, suc, ◌+◌, ◌-◌, ◌≤◌, Bool, true, false, IsTrue, List, [], ◌∷◌, length, take, drop, reverse, Option, Some, slice_get, nat_eq, if◌then◌else◌, refl, sym, ap, subst, arith}
use Rattle.std.proofs.lemmas.Bool.{le-leb}
use Rattle.std.proofs.lemmas.Option.{same_Some}
use Rattle.std.proofs.lemmas.List.{length-drop}
use Rattle.css_semantics.specs.Dialogue.{Action, Enter, Turn, Leave, Load, Store, Out, In, Malloc, Calls, Returns, Start, Finish, Barrier, Wait, WaitFault, DimFault, Fault, End, Mode}
use Rattle.css_isa.specs.declared.code.Op.{Op}
use Rattle.css_isa.specs.Code.{Routine, Shape, Code, all_dimensions, call_of}
use Rattle.css_isa.specs.Cells.{cell_as}
use Rattle.css_isa.specs.Effects.{Effect, effect, Gives, Asks, Tells, Faults, Lacks}
use Rattle.css_isa.specs.Roles.{Role, Straight, Turning, Outward, Telling, Awaiting, Changing, Testing, Jumping, Branching, Calling, Submitting, Returning, role_of}
use Rattle.css_isa.specs.Steps.{Activation, Caller, State, Begin, At, Step, Moves, Enters, Submits, inside, on_top, on_many, on_function, on_task, worked, waiting, calling, submitting, returning, act, at_instr, step_of}
use Rattle.css_isa.specs.Worked.{leads_next, needed_at}
use Rattle.css_isa.specs.Soundness.{Spot, Plan, spot_at, arguments_taken, dimensions_of_task, dimensions_taken, Stays, Leads, cells_needed, AreNamed, LeadsOn, IsSound, AreCallers, IsAt}
use Rattle.css_isa.specs.Fitting.{cells_behind, IsFitting, IsSomewhere, IsNearer, IsOnward, LeadsOnward}
use Rattle.css_isa.proofs.Fitting.{effect_fits}

module _ (code : Code) (plans : List Plan) (sound : IsSound code plans) where
  -- the entry of a function over callers that wait
  enters_somewhere : (k : ℕ) (f : Routine) (is_task : Bool) (callers : List Caller) (others base : ℕ) → slice_get code.functions k ≡ Some f → AreCallers code plans others callers
      → IsSomewhere code plans (inside k is_task callers base)
  enters_somewhere k f is_task callers others base there waits =
      let s = sound.each k f there in
      (s.2.first.0 + others, (s.2.first.0, others, (f, s.0, there, s.1, s.2.first.1), waits, refl))

  onward : (action : Action) (steps : ℕ) (s : State) → IsNearer code plans steps s → IsOnward code plans action steps s
  onward (Enter size) steps s h = h
  onward Turn steps s h = (h.0, h.2)
  onward (Leave base size) steps s h = h
  onward (Load address width) steps s h = h
  onward (Store address bytes) steps s h = h
  onward (Out bytes) steps s h = h
  onward In steps s h = h
  onward (Malloc size) steps s h = h
  onward (Calls call) steps s h = h
  onward Returns steps s h = h
  onward Start steps s h = h
  onward Finish steps s h = h
  onward Barrier steps s h = h
  onward (Wait address) steps s h = h
  onward WaitFault steps s h = h
  onward DimFault steps s h = h
  onward (Fault kind) steps s h = h
  onward (End result) steps s h = h

  module _ (a : Activation) (callers : List Caller) (line place : ℕ) (stack : List ℕ) (rank others : ℕ) (f : Routine) (plan : Plan) (there : slice_get code.functions a.function ≡ Some f) (planned : slice_get plans a.function ≡ Some plan) (waits : AreCallers code plans others callers) where
    abbrev spot : Spot
    spot = record { height = length stack; mode = a.mode; rank = rank }

    spot_is : (place' height : ℕ) (mode : Mode) (next : Spot) → spot_at plan place' ≡ Some next → next.height ≡ height → next.mode ≡ mode → spot_at plan place' ≡ Some (record { height = height; mode = mode; rank = next.rank })
    spot_is place' height mode next at h m = rw (sym h, sym m) at

    near : (b : Activation) → slice_get code.functions b.function ≡ Some f → slice_get plans b.function ≡ Some plan → (place' : ℕ) (cells : List ℕ)
        → Leads plan place' spot (length cells) b.mode → IsNearer code plans (rank + others) (At b callers place' cells)
    near b there_b planned_b place' cells leads =
        let next = leads.0 in
        (next.rank + others, omega (arith, leads.4), (next.rank, others, (f, plan, there_b, planned_b, spot_is place' (length cells) b.mode next leads.1 leads.2 leads.3), waits, refl))

    here : (place' : ℕ) (cells : List ℕ) → Leads plan place' spot (length cells) a.mode → IsNearer code plans (rank + others) (At a callers place' cells)
    here place' cells leads = near a there planned place' cells leads

    stays : (place' : ℕ) (cells : List ℕ) → Stays plan place' (length cells) a.mode → IsSomewhere code plans (At a callers place' cells)
    stays place' cells s =
        let next = s.0 in
        (next.rank + others, (next.rank, others, (f, plan, there, planned, spot_is place' (length cells) a.mode next s.1 s.2 s.3), waits, refl))

    -- an effect of a role that isn't a turn's
    work_onward : (role : Role) (e : Effect) → IsFitting role (length stack) e → Leads plan (place + 1) spot (cells_behind role (length stack)) a.mode → LeadsOnward code plans (rank + others) (worked code a callers line place e)
    work_onward role (Gives cells) fits leads = here (place + 1) cells (subst (λ h. Leads plan (place + 1) spot h a.mode) (sym fits.0) leads)
    work_onward role (Asks action t cells) fits leads = λ r. onward action (rank + others) _ (here (place + 1) (cell_as t r ∷ cells) (subst (λ h. Leads plan (place + 1) spot h a.mode) (sym fits.0) leads))
    work_onward role (Tells action cells) fits leads = onward action (rank + others) _ (here (place + 1) cells (subst (λ h. Leads plan (place + 1) spot h a.mode) (sym fits.0) leads))
    work_onward role (Faults kind) fits leads = tt
    work_onward role Lacks fits leads = absurd fits

    turn_onward : (e : Effect) → IsFitting Turning (length stack) e → Stays plan (place + 1) (length stack) a.mode → LeadsOnward code plans (rank + others) (worked code a callers line place e)
    turn_onward (Gives cells) fits s = absurd fits.1
    turn_onward (Asks Turn t cells) fits s = λ r. stays (place + 1) (cell_as t r ∷ cells) (subst (λ h. Stays plan (place + 1) h a.mode) (sym fits.0) s)
    turn_onward (Tells Turn cells) fits s = stays (place + 1) cells (subst (λ h. Stays plan (place + 1) h a.mode) (sym fits.0) s)
    turn_onward (Asks _ t cells) fits s = absurd fits.1
    turn_onward (Tells _ cells) fits s = absurd fits.1
    turn_onward (Faults kind) fits s = tt
    turn_onward Lacks fits s = absurd fits

    fits_as : (op : Op) (role : Role) → role_of op ≡ role → IsTrue (leads_next role) → needed_at role ≤ length stack → IsFitting role (length stack) (effect a.base op stack)
    fits_as op role is goes finds =
        subst (λ r. IsFitting r (length stack) (effect a.base op stack)) is
        (effect_fits a.base op stack (subst (λ r. IsTrue (leads_next r)) (sym is) goes) (subst (λ r. needed_at r ≤ length stack) (sym is) finds))

    many_onward : (n : ℕ) (cells : List ℕ) (go : List ℕ → List ℕ → Step) → n ≤ length cells → ((arguments : List ℕ) → LeadsOnward code plans (rank + others) (go arguments (drop n cells))) → LeadsOnward code plans (rank + others) (on_many n cells go)
    many_onward n cells go le each = rw (le-leb n (length cells) le) (each (reverse (take n cells)))

    caller_waits : (rest : List ℕ) → Stays plan (place + 1) (suc (length rest)) a.mode → (n : ℕ) × AreCallers code plans n (waiting code a callers line place rest ∷ callers)
    caller_waits rest s =
        let next = s.0 in
        (suc (next.rank + others), (next.rank, others, (f, plan, there, planned, spot_is (place + 1) (suc (length rest)) a.mode next s.1 s.2 s.3), waits, refl))

    call_onward : (k : ℕ) (g : Routine) → slice_get code.functions k ≡ Some g → length g.parameters ≤ length stack → Stays plan (place + 1) (length stack - length g.parameters + 1) a.mode
        → LeadsOnward code plans (rank + others) (calling code a callers line place k stack)
    call_onward k g at le s =
        rw at (many_onward (length g.parameters) stack (λ arguments rest. Enters k g false arguments line (waiting code a callers line place rest ∷ callers)) le (λ arguments base.
        let rest = drop (length g.parameters) stack in
        let same : length stack - length g.parameters + 1 ≡ suc (length rest) = omega (arith, length-drop (length g.parameters) stack) in
        let c = caller_waits rest (subst (λ h. Stays plan (place + 1) h a.mode) same s) in
        enters_somewhere k g false (waiting code a callers line place rest ∷ callers) c.0 base at c.1))

    submit_onward : (k : ℕ) (g : Routine) (shape : Shape) → slice_get code.functions k ≡ Some g → g.task ≡ Some shape → length g.parameters + all_dimensions shape.arguments ≤ length stack
        → Leads plan (place + 1) spot (length stack - (length g.parameters + all_dimensions shape.arguments) + 1) a.mode
        → LeadsOnward code plans (rank + others) (submitting code a callers line place k stack)
    submit_onward k g shape at is_task le leads =
        let below = drop (all_dimensions shape.arguments) stack in
        let rest = drop (length g.parameters) below in
        let low : length below ≡ length stack - all_dimensions shape.arguments = length-drop (all_dimensions shape.arguments) stack in
        let same : length stack - (length g.parameters + all_dimensions shape.arguments) + 1 ≡ suc (length rest) = omega (arith, low, le, length-drop (length g.parameters) below) in
        let l : Leads plan (place + 1) spot (suc (length rest)) a.mode = subst (λ h. Leads plan (place + 1) spot h a.mode) same leads in
        let c = caller_waits rest (l.0, l.1, l.2, l.3) in
        rw at (subst (λ (o : Option Shape). LeadsOnward code plans (rank + others) (on_task o (λ s.
        on_many (all_dimensions s.arguments) stack (λ dimensions below. on_many (length g.parameters) below (λ arguments rest.
        Submits (call_of k g s arguments dimensions a.base) k g arguments line (waiting code a callers line place rest ∷ callers) (At a callers (place + 1) (0 ∷ rest))))))) (sym is_task)
        (many_onward (all_dimensions shape.arguments) stack (λ dimensions below. on_many (length g.parameters) below (λ arguments rest.
        Submits (call_of k g shape arguments dimensions a.base) k g arguments line (waiting code a callers line place rest ∷ callers) (At a callers (place + 1) (0 ∷ rest)))) (omega arith)
        (λ dimensions. many_onward (length g.parameters) below (λ arguments rest.
        Submits (call_of k g shape arguments dimensions a.base) k g arguments line (waiting code a callers line place rest ∷ callers) (At a callers (place + 1) (0 ∷ rest))) (omega (arith, low, le))
        (λ arguments. ((λ base. enters_somewhere k g true (waiting code a callers line place rest ∷ callers) c.0 base at c.1), here (place + 1) (0 ∷ rest) l)))))

    return_onward : (cell : ℕ) → LeadsOnward code plans (rank + others) (returning code a callers line place callers f cell)
    return_onward cell = by_callers callers waits
      where
        by_callers : (cs : List Caller) → AreCallers code plans others cs → LeadsOnward code plans (rank + others) (returning code a callers line place cs f cell)
        by_callers [] w = tt
        by_callers (c ∷ cs) w = (w.0 + w.1, omega (arith, w.4), (w.0, w.1, w.2, w.3, refl))

    act_onward : (op : Op) (role : Role) → role_of op ≡ role → cells_needed code role ≤ length stack → AreNamed code role → LeadsOn code plan place spot role
        → LeadsOnward code plans (rank + others) (act code a callers line place role op stack)
    act_onward op (Straight needed taken given) is finds named leads = work_onward (Straight needed taken given) (effect a.base op stack) (fits_as op (Straight needed taken given) is refl finds) leads
    act_onward op Turning is finds named leads = turn_onward (effect a.base op stack) (fits_as op Turning is refl finds) leads
    act_onward op (Outward taken given) is finds named leads = work_onward (Outward taken given) (effect a.base op stack) (fits_as op (Outward taken given) is refl finds) leads
    act_onward op Telling is finds named leads = work_onward Telling (effect a.base op stack) (fits_as op Telling is refl finds) leads
    act_onward op Awaiting is finds named leads = work_onward Awaiting (effect a.base op stack) (fits_as op Awaiting is refl finds) leads
    act_onward op (Changing mode) is finds named leads = near (record a { mode = mode }) there planned (place + 1) stack leads
    act_onward op Testing is finds named leads =
        let one : length stack + 1 ≡ suc (length stack) = omega arith in
        let l : Leads plan (place + 1) spot (suc (length stack)) a.mode = subst (λ h. Leads plan (place + 1) spot h a.mode) one leads in
        (here (place + 1) (1 ∷ stack) l, here (place + 1) (0 ∷ stack) l)
    act_onward op (Jumping to) is finds named leads = here to stack leads
    act_onward op (Branching to) is finds named leads = branch_onward to stack refl finds leads
      where
        either_way : (b : Bool) (to : ℕ) (rest : List ℕ) → Leads plan to spot (length rest) a.mode → Leads plan (place + 1) spot (length rest) a.mode
            → IsNearer code plans (rank + others) (At a callers (if b then to else place + 1) rest)
        either_way true to rest there_it_goes or_on = here to rest there_it_goes
        either_way false to rest there_it_goes or_on = here (place + 1) rest or_on

        branch_onward : (to : ℕ) (cells : List ℕ) → cells ≡ stack → 1 ≤ length cells → Leads plan to spot (length cells - 1) a.mode × Leads plan (place + 1) spot (length cells - 1) a.mode
            → LeadsOnward code plans (rank + others) (on_top cells (λ cell rest. Moves (At a callers (if nat_eq cell 0 then to else place + 1) rest)))
        branch_onward to [] same h leads = absurd (omega arith)
        branch_onward to (cell ∷ rest) same h leads =
            let fewer : length (cell ∷ rest) - 1 ≡ length rest = omega arith in
            either_way (nat_eq cell 0) to rest (subst (λ h. Leads plan to spot h a.mode) fewer leads.0) (subst (λ h. Leads plan (place + 1) spot h a.mode) fewer leads.1)
    act_onward op (Calling k) is finds named leads =
        let at = named.1 in
        call_onward k named.0 at (subst (λ o. arguments_taken o ≤ length stack) at finds) (subst (λ o. Stays plan (place + 1) (length stack - arguments_taken o + 1) a.mode) at leads)
    act_onward op (Submitting k) is finds named leads =
        let at = named.2 in
        let found : arguments_taken (Some named.0) + dimensions_taken (Some named.0) ≤ length stack = subst (λ o. arguments_taken o + dimensions_taken o ≤ length stack) at finds in
        let led : Leads plan (place + 1) spot (length stack - (arguments_taken (Some named.0) + dimensions_taken (Some named.0)) + 1) a.mode =
        subst (λ o. Leads plan (place + 1) spot (length stack - (arguments_taken o + dimensions_taken o) + 1) a.mode) at leads in
        submit_onward k named.0 named.1 at named.3
        (subst (λ o. length named.0.parameters + dimensions_of_task o ≤ length stack) named.3 found)
        (subst (λ o. Leads plan (place + 1) spot (length stack - (length named.0.parameters + dimensions_of_task o) + 1) a.mode) named.3 led)
    act_onward op Returning is finds named leads = by_top stack finds
      where
        by_top : (cells : List ℕ) → 1 ≤ length cells → LeadsOnward code plans (rank + others) (on_top cells (λ cell rest. on_function (slice_get code.functions a.function) (λ g. returning code a callers line place callers g cell)))
        by_top [] h = absurd (omega arith)
        by_top (cell ∷ rest) h = rw there (return_onward cell)

  -- ---- states

  -- at an instruction of a function
  instr_onward : (a : Activation) (callers : List Caller) (place : ℕ) (stack : List ℕ) (rank others : ℕ) (f : Routine) (plan : Plan) → slice_get code.functions a.function ≡ Some f → slice_get plans a.function ≡ Some plan
      → spot_at plan place ≡ Some (record { height = length stack; mode = a.mode; rank = rank }) → AreCallers code plans others callers
      → LeadsOnward code plans (rank + others) (at_instr code (slice_get f.body place) a callers place stack)
  instr_onward a callers place stack rank others f plan there planned at waits =
      let s = sound.each a.function f there in
      let same : s.0 ≡ plan = same_Some s.0 plan (sym s.1 ∙ planned) in
      let here = s.2.each place (record { height = length stack; mode = a.mode; rank = rank }) (ap (λ p. spot_at p place) same ∙ at) in
      let i = here.0 in
      let fine = here.2 in
      rw here.1 (act_onward a callers i.line place stack rank others f s.0 there s.1 waits i.op (role_of i.op) refl fine.finds fine.names fine.goes_on)

  pub step_onward : (s : State) (steps : ℕ) → IsAt code plans steps s → LeadsOnward code plans steps (step_of code s)
  step_onward (Begin k arguments line) steps h = rw h.1.1 (λ base. enters_somewhere k h.1.0 false [] 0 base h.1.1 refl)
  step_onward (At a callers place stack) steps h =
      rw h.2.2 (subst (λ n. LeadsOnward code plans n (at_instr code (slice_get h.2.0.body place) a callers place stack)) (sym h.4)
      (instr_onward a callers place stack h.0 h.1 h.2.0 h.2.1 h.2.2 h.2.3 h.2.4 h.3))
