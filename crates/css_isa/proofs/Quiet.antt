-- What a task reaches asks for its memory and its units alone.
use Rattle.std.proofs.Common.{◌≡◌, ◌∙◌, ℕ, ◌+◌, ◌≤◌, Bool, true, false, ◌||◌, IsTrue, List, [], ◌∷◌, length, take, drop, reverse, Contains, Option, Some, None, slice_get, nat_le, nat_eq, if◌then◌else◌, refl, sym, ap, subst}
use Rattle.std.proofs.lemmas.Option.{slice_get_within, get_or_from_slice_get, same_Some}
use Rattle.css_semantics.specs.Dialogue.{Action, Enter, Turn, Leave, Load, Store, Out, In, Malloc, Calls, Returns, Start, Finish, Barrier, Wait, WaitFault, DimFault, Fault, End, Plain}
use Rattle.css_semantics.specs.Worlds.{is_of_machine, is_fault}
use Rattle.css_semantics.proofs.TaskBytes.{all_at}
use Rattle.css_isa.specs.declared.code.Instr.{Instr}
use Rattle.css_isa.specs.declared.code.Op.{Op}
use Rattle.css_isa.specs.declared.code.Op.TheVariants as ops
use Rattle.css_isa.specs.declared.code.Mark.TheVariants as marks
use Rattle.css_isa.specs.Code.{Routine, Code}
use Rattle.css_isa.specs.Cells.{cell_as}
use Rattle.css_isa.specs.Effects.{Effect, effect, Gives, Asks, Tells, Faults, Lacks}
use Rattle.css_isa.specs.Roles.{Role, Straight, Turning, Outward, Telling, Awaiting, Changing, Testing, Jumping, Branching, Calling, Submitting, Returning, role_of}
use Rattle.css_isa.specs.Steps.{Activation, Caller, State, Begin, At, Stuck, Step, Moves, Requests, Notifies, Fails, Tests, Enters, Leaves, Submits, Halts, pushed, on_top, on_many, on_function, worked, waiting, calling, returning, act, step_of}
use Rattle.css_isa.specs.Worked.{leads_next, needed_at}
use Rattle.css_isa.specs.Soundness.{Plan, spot_at, cells_needed, IsSound, IsReached, Called, MakesNoEvent, IsQuiet}
use Rattle.css_isa.specs.Fitting.{MayAsk, IsFitting, LeadsOnward}
use Rattle.css_isa.specs.Walks.{MayEnter, Keeps, IsClosed}
use Rattle.css_isa.specs.Quiet.{MayTask, IsQuietActivation, AreQuietCallers, IsQuietState, IsQuietAt}
use Rattle.css_isa.proofs.Fitting.{effect_fits}
use Rattle.css_isa.proofs.Onward.{step_onward}
use Rattle.css_isa.proofs.NeverStuck.{somewhere}

abbrev function_at : Role → ℕ
function_at (Calling k) = k
function_at _ = 0

same_function : (j k : ℕ) → Calling j ≡ Calling k → j ≡ k
same_function j k e = ap function_at e

is_call : (op : Op) (k : ℕ) → role_of op ≡ Calling k → op ≡ ops.Call k
is_call (ops.Push v) k e = absurd cc
is_call ops.Drop k e = absurd cc
is_call (ops.Dup n) k e = absurd cc
is_call ops.Swap k e = absurd cc
is_call (ops.Frame offset) k e = absurd cc
is_call ops.Load8u k e = absurd cc
is_call ops.Load8s k e = absurd cc
is_call ops.Load16u k e = absurd cc
is_call ops.Load16s k e = absurd cc
is_call ops.Load32u k e = absurd cc
is_call ops.Load32s k e = absurd cc
is_call ops.Load64 k e = absurd cc
is_call ops.Store8 k e = absurd cc
is_call ops.Store16 k e = absurd cc
is_call ops.Store32 k e = absurd cc
is_call ops.Store64 k e = absurd cc
is_call ops.Add k e = absurd cc
is_call ops.Sub k e = absurd cc
is_call ops.Mul k e = absurd cc
is_call ops.And k e = absurd cc
is_call ops.Or k e = absurd cc
is_call ops.Xor k e = absurd cc
is_call ops.Neg k e = absurd cc
is_call ops.Not k e = absurd cc
is_call ops.Divs k e = absurd cc
is_call ops.Divu k e = absurd cc
is_call ops.Rems k e = absurd cc
is_call ops.Remu k e = absurd cc
is_call (ops.Shl n) k e = absurd cc
is_call (ops.Shrs n) k e = absurd cc
is_call (ops.Shru n) k e = absurd cc
is_call ops.Eq k e = absurd cc
is_call ops.Ne k e = absurd cc
is_call ops.Lts k e = absurd cc
is_call ops.Ltu k e = absurd cc
is_call (ops.Conv t) k e = absurd cc
is_call (ops.Jump to) k e = absurd cc
is_call (ops.Jumpz to) k e = absurd cc
is_call (ops.Call j) k e = ap ops.Call (same_function j k e)
is_call ops.Ret k e = absurd cc
is_call ops.Turn k e = absurd cc
is_call (ops.Submit j) k e = absurd cc
is_call (ops.Mark marks.Start) k e = absurd cc
is_call (ops.Mark marks.Finish) k e = absurd cc
is_call (ops.Mark marks.Barrier) k e = absurd cc
is_call (ops.Mark marks.Wait) k e = absurd cc
is_call (ops.Mark marks.InWait) k e = absurd cc
is_call (ops.Mark marks.InDimension) k e = absurd cc
is_call (ops.Mark marks.Outside) k e = absurd cc
is_call (ops.Mark marks.Started) k e = absurd cc
is_call (ops.Out c) k e = absurd cc
is_call ops.In k e = absurd cc
is_call ops.Malloc k e = absurd cc

asks_machine : (n t g : ℕ) (action : Action) → MayAsk (Straight n t g) action → IsTrue (is_of_machine action || is_fault action)
asks_machine n t g (Enter size) may = absurd may
asks_machine n t g Turn may = absurd may
asks_machine n t g (Leave base size) may = absurd may
asks_machine n t g (Load address width) may = refl
asks_machine n t g (Store address bytes) may = refl
asks_machine n t g (Out bytes) may = absurd may
asks_machine n t g In may = absurd may
asks_machine n t g (Malloc size) may = absurd may
asks_machine n t g (Calls call) may = absurd may
asks_machine n t g Returns may = absurd may
asks_machine n t g Start may = absurd may
asks_machine n t g Finish may = absurd may
asks_machine n t g Barrier may = absurd may
asks_machine n t g (Wait address) may = absurd may
asks_machine n t g WaitFault may = absurd may
asks_machine n t g DimFault may = absurd may
asks_machine n t g (Fault kind) may = absurd may
asks_machine n t g (End result) may = absurd may

turns_only : (action : Action) → MayAsk Turning action → IsTrue (is_of_machine action || is_fault action)
turns_only (Enter size) may = absurd may
turns_only Turn may = refl
turns_only (Leave base size) may = absurd may
turns_only (Load address width) may = absurd may
turns_only (Store address bytes) may = absurd may
turns_only (Out bytes) may = absurd may
turns_only In may = absurd may
turns_only (Malloc size) may = absurd may
turns_only (Calls call) may = absurd may
turns_only Returns may = absurd may
turns_only Start may = absurd may
turns_only Finish may = absurd may
turns_only Barrier may = absurd may
turns_only (Wait address) may = absurd may
turns_only WaitFault may = absurd may
turns_only DimFault may = absurd may
turns_only (Fault kind) may = absurd may
turns_only (End result) may = absurd may

contains_at : {X : Type 0} (xs : List X) (j : ℕ) (x : X) → slice_get xs j ≡ Some x → Contains xs x
contains_at xs j x at = (j, slice_get_within xs j x at, get_or_from_slice_get xs j x x at)

may_enter : (size : ℕ) → MayEnter MayTask size
may_enter size = record { enters = (refl, refl); stores = λ address bytes. (refl, refl) }

module _ (code : Code) where
  abbrev Quiet : Step → Type 0
  Quiet s = Keeps MayTask (IsQuietState code) s

  module _ (a : Activation) (callers : List Caller) (line place : ℕ) (stack : List ℕ) (here : IsQuietActivation code a) (others : AreQuietCallers code callers) where
    straight_quiet : (n t g : ℕ) (e : Effect) → IsFitting (Straight n t g) (length stack) e → Quiet (worked code a callers line place e)
    straight_quiet n t g (Gives cells) fits = (here, others)
    straight_quiet n t g (Asks action ty cells) fits = ((here.is_plain, asks_machine n t g action fits.1), λ r. (here, others))
    straight_quiet n t g (Tells action cells) fits = ((here.is_plain, asks_machine n t g action fits.1), (here, others))
    straight_quiet n t g (Faults kind) fits = (here.is_plain, refl)
    straight_quiet n t g Lacks fits = absurd fits

    turning_quiet : (e : Effect) → IsFitting Turning (length stack) e → Quiet (worked code a callers line place e)
    turning_quiet (Gives cells) fits = (here, others)
    turning_quiet (Asks action ty cells) fits = ((here.is_plain, turns_only action fits.1), λ r. (here, others))
    turning_quiet (Tells action cells) fits = ((here.is_plain, turns_only action fits.1), (here, others))
    turning_quiet (Faults kind) fits = (here.is_plain, refl)
    turning_quiet Lacks fits = absurd fits

    either_quiet : (b : Bool) (s s' : Step) → Quiet s → Quiet s' → Quiet (if b then s else s')
    either_quiet true s s' h k = h
    either_quiet false s s' h k = k

    function_quiet : (o : Option Routine) (go : Routine → Step) → ((f : Routine) → Quiet (go f)) → Quiet (on_function o go)
    function_quiet None go each = tt
    function_quiet (Some f) go each = each f

    top_quiet : (cells : List ℕ) (go : ℕ → List ℕ → Step) → ((cell : ℕ) (rest : List ℕ) → Quiet (go cell rest)) → Quiet (on_top cells go)
    top_quiet [] go each = tt
    top_quiet (cell ∷ rest) go each = each cell rest

    call_quiet : (k : ℕ) → IsReached code k → Quiet (calling code a callers line place k stack)
    call_quiet k reached =
        function_quiet (slice_get code.functions k) (λ f. on_many (length f.parameters) stack (λ arguments rest. Enters k f false arguments line (waiting code a callers line place rest ∷ callers)))
        (λ f. either_quiet (nat_le (length f.parameters) (length stack)) (Enters k f false (reverse (take (length f.parameters) stack)) line (waiting code a callers line place (drop (length f.parameters) stack) ∷ callers)) (Halts Stuck)
        (may_enter f.frame, λ base. (record { reached = reached; no_task = refl; is_plain = refl }, (here, others))) tt)

    no_return : a.is_task ≡ true → MayTask Plain Returns
    no_return e = absurd (differ e)
      where
        differ : a.is_task ≡ true → ⊥
        differ e = let both : true ≡ false = sym e ∙ here.no_task in absurd cc

    return_quiet : (cs : List Caller) → AreQuietCallers code cs → (f : Routine) (cell : ℕ) → Quiet (returning code a callers line place cs f cell)
    return_quiet [] quiet f cell = tt
    return_quiet (c ∷ cs) quiet f cell = ((refl, refl), no_return, (quiet.0, quiet.1))

    act_quiet : (op : Op) (role : Role) → role_of op ≡ role → MakesNoEvent code role → cells_needed code role ≤ length stack → ((k : ℕ) → role ≡ Calling k → IsReached code k) → Quiet (act code a callers line place role op stack)
    act_quiet op (Straight n t g) is quiet finds calls =
        straight_quiet n t g (effect a.base op stack) (subst (λ r. IsFitting r (length stack) (effect a.base op stack)) is
        (effect_fits a.base op stack (subst (λ r. IsTrue (leads_next r)) (sym is) refl) (subst (λ r. needed_at r ≤ length stack) (sym is) finds)))
    act_quiet op Turning is quiet finds calls =
        turning_quiet (effect a.base op stack) (subst (λ r. IsFitting r (length stack) (effect a.base op stack)) is
        (effect_fits a.base op stack (subst (λ r. IsTrue (leads_next r)) (sym is) refl) (subst (λ r. needed_at r ≤ length stack) (sym is) finds)))
    act_quiet op (Outward taken given) is quiet finds calls = absurd quiet
    act_quiet op Telling is quiet finds calls = absurd quiet
    act_quiet op Awaiting is quiet finds calls = absurd quiet
    act_quiet op (Changing mode) is quiet finds calls = absurd quiet
    act_quiet op Testing is quiet finds calls = absurd quiet
    act_quiet op (Jumping to) is quiet finds calls = (here, others)
    act_quiet op (Branching to) is quiet finds calls = top_quiet stack (λ cell rest. Moves (At a callers (if nat_eq cell 0 then to else place + 1) rest)) (λ cell rest. (here, others))
    act_quiet op (Calling k) is quiet finds calls = call_quiet k (calls k refl)
    act_quiet op (Submitting k) is quiet finds calls = absurd quiet
    act_quiet op Returning is quiet finds calls =
        top_quiet stack (λ cell rest. on_function (slice_get code.functions a.function) (λ f. returning code a callers line place callers f cell))
        (λ cell rest. function_quiet (slice_get code.functions a.function) (λ f. returning code a callers line place callers f cell) (λ f. return_quiet callers others f cell))

  module _ (plans : List Plan) (sound : IsSound code plans) where
    step_quiet : (s : State) → IsQuietAt code plans s → Quiet (step_of code s)
    step_quiet (Begin k arguments line) h =
        let at = h.1.1.1 in
        rw at.1 (may_enter at.0.frame, λ base. (record { reached = h.0; no_task = refl; is_plain = refl }, tt))
    step_quiet (At a callers place stack) h =
        let at = h.1.1 in
        let f = at.2.0 in
        let s = sound.each a.function f at.2.2 in
        let same : s.0 ≡ at.2.1 = same_Some s.0 at.2.1 (sym s.1 ∙ at.2.3) in
        let i = s.2.each place (record { height = length stack; mode = a.mode; rank = at.0 }) (ap (λ p. spot_at p place) same ∙ at.2.4) in
        let quiet = all_at (λ (i : Instr). IsQuiet code i.op) f.body place i.0 (sound.quiet a.function f h.0.0.reached at.2.2) i.1 in
        rw at.2.2 (rw i.1 (act_quiet a callers i.0.line place stack h.0.0 h.0.1 i.0.op (role_of i.0.op) refl quiet i.2.finds
        (λ k e. Called a.function f i.0 h.0.0.reached at.2.2 (contains_at f.body place i.0 i.1) (is_call i.0.op k e))))

    both : (steps : ℕ) (s : Step) → Quiet s → LeadsOnward code plans steps s → Keeps MayTask (IsQuietAt code plans) s
    both steps (Moves next) q h = (q, (h.0, h.2))
    both steps (Requests mode action line t next) q h = (q.0, λ r. (q.1 r, somewhere code plans action steps (pushed (cell_as t r) next) (h r)))
    both steps (Notifies mode action line next) q h = (q.0, (q.1, somewhere code plans action steps next h))
    both steps (Fails mode kind line) q h = q
    both steps (Tests begun other) q h = ((q.0, (h.0.0, h.0.2)), (q.1, (h.1.0, h.1.2)))
    both steps (Enters function f is_task arguments line callers) q h = (q.0, λ base. (q.1 base, h base))
    both steps (Leaves base size is_task line next) q h = (q.0, q.1, (q.2, (h.0, h.2)))
    both steps (Submits call function f arguments line callers next) q h = (q.0, q.1, q.2, (λ base. (q.3 base, h.0 base)), (q.4, (h.1.0, h.1.2)))
    both steps (Halts halt) q h = tt

    pub quiet_closed : IsClosed code MayTask (IsQuietAt code plans)
    quiet_closed s h = both h.1.0 (step_of code s) (step_quiet s h) (step_onward code plans sound s h.1.0 h.1.1)
