-- What the instructions do at which the steps of an activation pause.
use Rattle.std.proofs.Common.{◌≡◌, ℕ, zero, suc, ◌+◌, ◌-◌, ◌*◌, ◌/◌, ◌%◌, ◌^◌, ◌<◌, ◌≤◌, List, [], ◌∷◌, ◌++◌, length, take, drop, reverse, Some, slice_get, nat_le, true, false, refl, sym, ap, ap₂, subst, ◌∙◌, arith, zero-add, le-leb, pow_pos, mod-lt, mod-eq_of_lt, inl, inr}
use Rattle.std.proofs.lemmas.Nat.{mod-pow-add}
use Rattle.std.proofs.lemmas.List.{length-drop, length-reverse, length-take-le}
use Rattle.css_base.specs.declared.ending.Stop.{Stop}
use Rattle.css_base.specs.declared.ending.Stop.TheVariants as stops
use Rattle.css_base.specs.declared.rule.Rule.TheVariants.{Units}
use Rattle.css_semantics.specs.Dialogue.{Action, Enter, Turn, Leave, Store, Out, Calls, Start, Finish, Barrier, Reply, Says, Tape, World, Call, Outcome, Goes, Stops, then_do, ask}
use Rattle.css_semantics.specs.Memory.{big_endian_bytes}
use Rattle.css_semantics.specs.Units.{with_units, within, metered, spending}
use Rattle.css_vm.specs.declared.code.Op.{Op}
use Rattle.css_vm.specs.declared.code.Op.TheVariants as ops
use Rattle.css_vm.specs.declared.code.Conversion.{Conversion}
use Rattle.css_vm.specs.declared.code.Conversion.TheVariants as conversions
use Rattle.css_vm.specs.declared.code.MarkKind.{MarkKind}
use Rattle.css_vm.specs.declared.code.MarkKind.TheVariants as marks
use Rattle.css_vm.specs.declared.machine.Event.TheVariants as events
use Rattle.css_vm.specs.declared.machine.Submitted.{Submitted}
use Rattle.css_vm.specs.declared.rounds.Round.TheVariants as rounds
use Rattle.css_vm.specs.Code.{Routine, Shape, Code, all_dimensions, scalars_of, pointers_of, narrowed_to, call_of}
use Rattle.css_vm.specs.Machine.{State, Begin, At, Activation, Caller, On, effect, next, stores, calling, called, entered, frame_of, exec, go_on}
use Rattle.css_vm.specs.Soundness.{Spot, Leads, IsFine, IsSound, IsSpot, Fits, Names, needs, takes, arguments_taken, dimensions_taken, dimensions_of_task}
use Rattle.css_vm.specs.Spaces.{IsRefusal, IsStackPlace}
use Rattle.css_vm.specs.Events.{Along, StopsAt, IsStacked, behind_call, Does, Falls, IsWhole}
use Rattle.css_vm.specs.Stacks.{running}
use Rattle.css_vm.specs.States.{function_of, stack_of, depth, moved, dropped, with_callee, returned, marked, Submits}
use Rattle.css_vm.specs.Steps.{HasInstr, IsBefore, ComesOn, Enters, StopsEntering, Comes, ComesRound}
use Rattle.css_vm.proofs.Requests.{along_map, along_none, along_says_then, along_refused_then}
use Rattle.css_vm.proofs.Steps.{then_assoc, fine_at, next_at, stays_at, exec_step, step_on}
use Rattle.css_vm.proofs.Runs.{plan_at}

-- where a unit is left, the reply is as it is without units
within_some : (units : ℕ) (r : Reply) → 0 < units → within units r ≡ r
within_some zero r some = absurd (omega arith)
within_some (suc units) r some = refl

-- narrowed arguments are as narrow as they get
narrowed_twice : (parameters arguments : List ℕ) → narrowed_to parameters (narrowed_to parameters arguments) ≡ narrowed_to parameters arguments
narrowed_twice [] arguments = refl
narrowed_twice (width ∷ parameters) [] = refl
narrowed_twice (width ∷ parameters) (a ∷ arguments) =
    let some : 0 < 2 ^ (8 * width) = pow_pos (8 * width) in
    let narrow : a % 2 ^ (8 * width) % 2 ^ (8 * width) ≡ a % 2 ^ (8 * width) = mod-eq_of_lt (mod-lt a some) in
    ap₂ (λ x xs. x ∷ xs) narrow (narrowed_twice parameters arguments)

-- an argument for each parameter stays one
narrowed_length : (parameters arguments : List ℕ) → length arguments ≡ length parameters → length (narrowed_to parameters arguments) ≡ length parameters
narrowed_length [] arguments same = refl
narrowed_length (width ∷ parameters) [] same = absurd (omega arith)
narrowed_length (width ∷ parameters) (a ∷ arguments) same = ap suc (narrowed_length parameters arguments (omega arith))

same_call : (k : ℕ) (g : Routine) (shape : Shape) (arguments dimensions : List ℕ) (base : ℕ) → call_of k g shape (narrowed_to g.parameters arguments) dimensions base ≡ call_of k g shape arguments dimensions base
same_call k g shape arguments dimensions base =
    ap (λ values. let call : Call = record { function = k; scalars = scalars_of shape.arguments values; arguments = pointers_of shape.arguments values dimensions; stack_place = base; is_high = shape.high } in call)
    (narrowed_twice g.parameters arguments)

-- what goes on alike behind an outcome
then_same : {A B : Type 0} (o : Outcome A) (f g : A → Tape → Outcome B) → ((a : A) (t : Tape) → f a t ≡ g a t) → then_do o f ≡ then_do o g
then_same (Goes a t) f g same = same a t
then_same (Stops why t) f g same = refl

-- a number's low bytes are those of a narrowed one
low_bytes : (width n : ℕ) → big_endian_bytes width (n % 2 ^ (8 * width)) ≡ big_endian_bytes width n
low_bytes zero n = refl
low_bytes (suc width) n =
    let rest = n / 256 % 2 ^ (8 * width) in
    let m = n % 2 ^ (8 * suc width) in
    let bits : 8 * suc width ≡ 8 * width + 8 = omega arith in
    let parts : m ≡ rest * 256 + n % 256 = ap (λ k. n % 2 ^ k) bits ∙ mod-pow-add n (8 * width) 8 in
    let high : m / 256 ≡ rest = omega arith in
    let low : m % 256 ≡ n % 256 = omega arith in
    ap (λ h. big_endian_bytes width h ++ m % 256 ∷ []) high ∙ ap (λ byte. big_endian_bytes width rest ++ byte ∷ []) low
    ∙ ap (λ bytes. bytes ++ n % 256 ∷ []) (low_bytes width (n / 256))

same_stores : (w : World) (address : ℕ) (parameters arguments : List ℕ) (line : ℕ) (tape : Tape) → stores w address parameters (narrowed_to parameters arguments) line tape ≡ stores w address parameters arguments line tape
same_stores w address [] arguments line tape = refl
same_stores w address (width ∷ parameters) [] line tape = refl
same_stores w address (width ∷ parameters) (a ∷ arguments) line tape =
    rw (low_bytes width a)
    (then_same (ask w (Store (address % 2 ^ 32) (big_endian_bytes width a)) line tape) (λ r t. stores w (address + 8) parameters (narrowed_to parameters arguments) line t) (λ r t. stores w (address + 8) parameters arguments line t)
    (λ r t. same_stores w (address + 8) parameters arguments line t))

-- a task's call goes on alike with narrowed arguments
same_behind : (w : World) (code : Code) (a : Activation) (callers : List Caller) (line at k : ℕ) (g : Routine) (arguments rest : List ℕ) (reply : ℕ) (tape : Tape)
    → called w code a callers line at k g arguments rest reply tape ≡ behind_call w line k g (narrowed_to g.parameters arguments) reply (At a callers (at + 1) (0 ∷ rest)) tape
same_behind w code a callers line at k g arguments rest zero tape = refl
same_behind w code a callers line at k g arguments rest (suc reply) tape =
    ap (λ o. then_do o (λ base t. Goes (On (At (record { function = k; base = base; is_task = true }) (record { activation = a; place = at + 1; stack = rest } ∷ callers) 0 [])) t))
    (then_same (ask w (Enter g.frame) line tape) (λ base t. then_do (stores w base g.parameters arguments line t) (λ r t'. Goes base t')) (λ base t. then_do (stores w base g.parameters (narrowed_to g.parameters arguments) line t) (λ r t'. Goes base t'))
    (λ base t. ap (λ o. then_do o (λ r t'. Goes base t')) (sym (same_stores w base g.parameters arguments line t))))

-- ---- at an instruction

module _ (code : Code) (f : Routine) (a : Activation) (callers : List Caller) (at line : ℕ) (op : Op) (is : slice_get code.functions a.function ≡ Some f) (has : HasInstr f at op line) where
  -- the machine takes the effect
  exec_at : (stack : List ℕ) (w : World) (n : ℕ) (tape : Tape) → exec w code (0 + suc n) (At a callers at stack) tape ≡ then_do (effect w code a callers line at op stack tape) (go_on (exec w code n))
  exec_at stack w n tape =
      rw zero-add
      (exec_step code f has.0 a callers at is has.1 stack w n tape
      ∙ ap₂ (λ o l. then_do (effect w code a callers l at o stack tape) (go_on (exec w code n))) has.2 has.3)

  -- the plan of the function is fine there
  fine_here : (plans : List (List Spot)) (height rank : ℕ) → IsSound code plans → IsSpot code plans a.function at height rank
      → (plan : List Spot) × (slice_get plans a.function ≡ Some plan) × IsFine code plan at (record { height = height; rank = rank }) op
  fine_here plans height rank sound here =
      let plan = plan_at code plans f a.function at height rank sound is here in
      let spot : Spot = record { height = height; rank = rank } in
      (plan.0, plan.1, subst (λ (o : Op). IsFine code plan.0 at spot o) has.2 (fine_at code f plan.0 has.0 at spot plan.2 has.1 plan.3))

  -- where the plan leads on, the steps that are left fall
  falls_on : (old new : List ℕ) (units : ℕ) → ((plan : List Spot) (spot : Spot) → spot.height ≡ length old → IsFine code plan at spot op → Leads plan (at + 1) spot (length new))
      → Falls code (At a callers at old) units (At a callers (at + 1) new) units
  falls_on old new units leads = λ plans steps sound here.
      let fine = fine_here plans (length old) here.0 sound here.2 in
      let spot : Spot = record { height = length old; rank = here.0 } in
      let there = next_at fine.0 (at + 1) here.0 (length old) (length new) (leads fine.0 spot refl fine.2) in (
        there.0 + here.1,
        (there.0, here.1, (f, fine.0, is, fine.1, there.2), here.3, refl),
        inr (refl, omega (arith, there.1, here.4)),
      )

  module _ {S : Type 0} (reply : S → Action → Reply) (learn : S → Action → S) where
    step_at : {space space' : S} (stack : List ℕ) (new : State) → Along reply learn space space' (λ w tape later. effect w code a callers line at op stack tape ≡ Goes (On new) later) → Along reply learn space space' (ComesOn code (At a callers at stack) 1 new)
    step_at stack new does =
        step_on reply learn code f has.0 a callers at is has.1 stack new
        (along_map reply learn (λ w tape later. effect w code a callers line at op stack tape ≡ Goes (On new) later) (λ w tape later. effect w code a callers has.0.line at has.0.op stack tape ≡ Goes (On new) later)
        (λ w tape later e. ap₂ (λ o l. effect w code a callers l at o stack tape) has.2 has.3 ∙ e) does)

    module _ (place : S → ℕ) where
      -- the effect stops
      comes_stop : (stack : List ℕ) (space : S) (units : ℕ) (stop : Stop) (new : State) (space' : S) (units' : ℕ)
          → (end : _) × Along (metered reply) (spending learn) (with_units space units) end (λ w tape later. StopsAt stop line (effect w code a callers line at op stack tape) later)
          → Comes reply learn place code (At a callers at stack) space units (events.Stopped stop line) new space' units'
      comes_stop stack space units stop new space' units' stops = (
        record {
          end = stops.0;
          is_left = tt;
          does = along_map (metered reply) (spending learn) (λ w tape later. StopsAt stop line (effect w code a callers line at op stack tape) later)
              (λ w tape later. Does w code (At a callers at stack) (events.Stopped stop line) new tape later)
              (λ w tape later there. (0, λ n. exec_at stack w n tape ∙ ap (λ o. then_do o (go_on (exec w code n))) there)) stops.1;
        },
        tt,
      )

-- ---- what a sound machine finds

pub finds_before : (code : Code) (op : Op) (line : ℕ) (s : State) → Fits code s → IsBefore code op line s → needs code op ≤ length (stack_of s)
finds_before code op line (Begin function arguments at) fits before = absurd before
finds_before code op line (At a callers at stack) fits before =
    let here = fits.2.1 in
    (fine_here code before.0 a callers at line op before.1 before.2 fits.0 (length stack) here.0 fits.1 here.2).2.finds

pub names_before : (code : Code) (op : Op) (line : ℕ) (s : State) → Fits code s → IsBefore code op line s → Names code op
names_before code op line (Begin function arguments at) fits before = absurd before
names_before code op line (At a callers at stack) fits before =
    let here = fits.2.1 in
    (fine_here code before.0 a callers at line op before.1 before.2 fits.0 (length stack) here.0 fits.1 here.2).2.names

-- ---- the instructions

module _ {S : Type 0} (reply : S → Action → Reply) (learn : S → Action → S) (place : S → ℕ) (code : Code) (line : ℕ) where
  -- a turn with a unit
  pub round_turn : (s : State) (space : S) (units : ℕ) → IsBefore code ops.Turn line s → IsStacked code (place space) s → 0 < units → ComesRound reply learn place code s space units rounds.Enters (moved s) space (units - 1)
  round_turn (Begin function arguments at) space units before stacked some = absurd before
  round_turn (At a callers at stack) space units before stacked some = (
    record {
      steps = 1;
      goes = step_at code before.0 a callers at line ops.Turn before.1 before.2 (metered reply) (spending learn) stack (At a callers (at + 1) stack)
          (along_says_then (metered reply) (spending learn) (with_units space units) Turn line refl (λ w r t. next w code a callers line at stack t) 0 (within_some units (Says 0) some));
      falls = λ plans left sound here.
          let fine = fine_here code before.0 a callers at line ops.Turn before.1 before.2 plans (length stack) here.0 sound here.2 in
          let there = stays_at fine.0 (at + 1) (length stack) fine.2.goes_on in (
            there.0 + here.1,
            (there.0, here.1, (before.0, fine.0, before.1, fine.1, there.1), here.3, refl),
            inl (omega arith),
          );
    },
    stacked,
    omega arith,
  )

  -- a turn with no unit
  pub turn_stops : (s : State) (space : S) (units : ℕ) (stop : Stop) (new : State) (space' : S) (units' : ℕ) → IsBefore code ops.Turn line s → units ≡ 0 → stop ≡ stops.Rule Units → Comes reply learn place code s space units (events.Stopped stop line) new space' units'
  turn_stops (Begin function arguments at) space units stop new space' units' before none is = absurd before
  turn_stops (At a callers at stack) space units stop new space' units' before none is =
      rw (none, is)
      (comes_stop code before.0 a callers at line ops.Turn before.1 before.2 reply learn place stack space 0 (stops.Rule Units) new space' units'
      (along_refused_then (metered reply) (spending learn) (with_units space 0) Turn line refl (λ w r t. next w code a callers line at stack t) (stops.Rule Units) refl))

  -- one byte is written
  pub comes_out : (conversion : Conversion) (s : State) (space : S) (units cell : ℕ) (rest : List ℕ) → IsBefore code (ops.Out conversion) line s → IsStacked code (place space) s → stack_of s ≡ cell ∷ rest → Comes reply learn place code s space units (events.Out (cell % 256 ∷ [])) (moved s) space units
  comes_out conversions.Char (Begin function arguments at) space units cell rest before stacked top = absurd before
  comes_out conversions.Char (At a callers at stack) space units cell rest before stacked top =
      rw top (
        record {
          end = with_units space units;
          is_left = refl;
          does = along_none (metered reply) (spending learn) (with_units space units) (λ w tape later. Does w code (At a callers at (cell ∷ rest)) (events.Out (cell % 256 ∷ [])) (At a callers (at + 1) (cell ∷ rest)) tape later)
              (λ w tape. (0, line, λ n. exec_at code before.0 a callers at line (ops.Out conversions.Char) before.1 before.2 (cell ∷ rest) w n tape ∙ then_assoc (ask w (Out (cell % 256 ∷ [])) line tape) (λ r t. next w code a callers line at (r ∷ rest) t) (go_on (exec w code n))));
        },
        (
          tt,
          falls_on code before.0 a callers at line (ops.Out conversions.Char) before.1 before.2 (cell ∷ rest) (cell ∷ rest) units
              (λ plan spot height fine.
              let same : spot.height - 1 + 1 ≡ length (cell ∷ rest) = omega arith in
              subst (Leads plan (at + 1) spot) same fine.goes_on),
          stacked,
        ),
      )

  -- a mark that tells something
  comes_telling : (kind : MarkKind) (action : Action) (a : Activation) (callers : List Caller) (at : ℕ) (stack : List ℕ) (space : S) (units : ℕ) → IsBefore code (ops.Mark kind) line (At a callers at stack) → IsStacked code (place space) (At a callers at stack)
      → ((w : World) (tape : Tape) → effect w code a callers line at (ops.Mark kind) stack tape ≡ then_do (ask w action line tape) (λ r t. next w code a callers line at stack t))
      → (w : World) (tape : Tape) (n : ℕ) → exec w code (0 + suc n) (At a callers at stack) tape ≡ then_do (ask w action line tape) (λ r t. exec w code n (At a callers (at + 1) stack) t)
  comes_telling kind action a callers at stack space units before stacked tells w tape n =
      exec_at code before.0 a callers at line (ops.Mark kind) before.1 before.2 stack w n tape
      ∙ ap (λ o. then_do o (go_on (exec w code n))) (tells w tape)
      ∙ then_assoc (ask w action line tape) (λ r t. next w code a callers line at stack t) (go_on (exec w code n))

  pub comes_mark : (kind : MarkKind) (s : State) (space : S) (units : ℕ) → IsBefore code (ops.Mark kind) line s → IsStacked code (place space) s → Comes reply learn place code s space units (events.Mark kind line) (marked kind s) space units
  comes_mark kind (Begin function arguments at) space units before stacked = absurd before
  comes_mark marks.Start (At a callers at stack) space units before stacked = (
    record {
      end = with_units space units;
      is_left = refl;
      does = along_none (metered reply) (spending learn) (with_units space units) (λ w tape later. Does w code (At a callers at stack) (events.Mark marks.Start line) (At a callers (at + 1) stack) tape later)
          (λ w tape. (0, comes_telling marks.Start Start a callers at stack space units before stacked (λ w' tape'. refl) w tape));
    },
    (
      tt,
      falls_on code before.0 a callers at line (ops.Mark marks.Start) before.1 before.2 stack stack units
          (λ plan spot height fine.
          let same : spot.height - 0 + 0 ≡ length stack = omega arith in
          subst (Leads plan (at + 1) spot) same fine.goes_on),
      stacked,
    ),
  )
  comes_mark marks.Finish (At a callers at stack) space units before stacked = (
    record {
      end = with_units space units;
      is_left = refl;
      does = along_none (metered reply) (spending learn) (with_units space units) (λ w tape later. Does w code (At a callers at stack) (events.Mark marks.Finish line) (At a callers (at + 1) stack) tape later)
          (λ w tape. (0, comes_telling marks.Finish Finish a callers at stack space units before stacked (λ w' tape'. refl) w tape));
    },
    (
      tt,
      falls_on code before.0 a callers at line (ops.Mark marks.Finish) before.1 before.2 stack stack units
          (λ plan spot height fine.
          let same : spot.height - 0 + 0 ≡ length stack = omega arith in
          subst (Leads plan (at + 1) spot) same fine.goes_on),
      stacked,
    ),
  )
  comes_mark marks.Barrier (At a callers at stack) space units before stacked = (
    record {
      end = with_units space units;
      is_left = refl;
      does = along_none (metered reply) (spending learn) (with_units space units) (λ w tape later. Does w code (At a callers at stack) (events.Mark marks.Barrier line) (At a callers (at + 1) stack) tape later)
          (λ w tape. (0, comes_telling marks.Barrier Barrier a callers at stack space units before stacked (λ w' tape'. refl) w tape));
    },
    (
      tt,
      falls_on code before.0 a callers at line (ops.Mark marks.Barrier) before.1 before.2 stack stack units
          (λ plan spot height fine.
          let same : spot.height - 0 + 0 ≡ length stack = omega arith in
          subst (Leads plan (at + 1) spot) same fine.goes_on),
      stacked,
    ),
  )
  comes_mark marks.Started (At a callers at stack) space units before stacked = (
    record {
      end = with_units space units;
      is_left = refl;
      does = along_none (metered reply) (spending learn) (with_units space units) (λ w tape later. Does w code (At a callers at stack) (events.Mark marks.Started line) (At a callers (at + 1) (0 ∷ stack)) tape later)
          (λ w tape. (0, λ n. exec_at code before.0 a callers at line (ops.Mark marks.Started) before.1 before.2 stack w n tape));
    },
    (
      tt,
      falls_on code before.0 a callers at line (ops.Mark marks.Started) before.1 before.2 stack (0 ∷ stack) units
          (λ plan spot height fine.
          let same : spot.height - 0 + 1 ≡ length (0 ∷ stack) = omega arith in
          subst (Leads plan (at + 1) spot) same fine.goes_on),
      stacked,
    ),
  )

  -- ---- calls

  -- the effect of a call whose arguments are there
  call_effect : (w : World) (a : Activation) (callers : List Caller) (at k arity : ℕ) (g : Routine) (stack : List ℕ) (tape : Tape) → slice_get code.functions k ≡ Some g → arity ≡ length g.parameters → arity ≤ length stack
      → effect w code a callers line at (ops.Call k) stack tape ≡ calling w code a callers line at k g false (reverse (take arity stack)) (drop arity stack) tape
  call_effect w a callers at k arity g stack tape there count enough =
      let enough' : length g.parameters ≤ length stack = omega arith in
      let le : nat_le (length g.parameters) (length stack) ≡ true = le-leb _ _ enough' in
      rw (there, le, ← count) refl

  pub round_call : (s : State) (space : S) (units : ℕ) (k arity base : ℕ) (g : Routine) (space' : S) (units' : ℕ) → IsBefore code (ops.Call k) line s → IsStacked code (place space) s → slice_get code.functions k ≡ Some g → arity ≡ length g.parameters → arity ≤ length (stack_of s)
      → Enters (metered reply) (spending learn) g (reverse (take arity (stack_of s))) (with_units space units) base (with_units space' units') → units' < units → place space' ≡ base → base + g.frame ≡ place space
      → ComesRound reply learn place code s space units rounds.Enters (with_callee k base (dropped arity s)) space' units'
  round_call (Begin function arguments at) space units k arity base g space' units' before stacked there count enough enters fewer under above = absurd before
  round_call (At a callers at stack) space units k arity base g space' units' before stacked there count enough enters fewer under above =
      let rest = drop arity stack in
      let new = At (running k base) (record { activation = a; place = at + 1; stack = rest } ∷ callers) 0 [] in (
        record {
          steps = 1;
          goes = step_at code before.0 a callers at line (ops.Call k) before.1 before.2 (metered reply) (spending learn) stack new
              (along_map (metered reply) (spending learn) (λ w tape later. entered w g (reverse (take arity stack)) line tape ≡ Goes base later) (λ w tape later. effect w code a callers line at (ops.Call k) stack tape ≡ Goes (On new) later)
              (λ w tape later e. call_effect w a callers at k arity g stack tape there count enough ∙ ap (λ o. then_do o (λ base t. Goes (On (At (running k base) (record { activation = a; place = at + 1; stack = rest } ∷ callers) 0 [])) t)) e)
              (enters line));
          falls = λ plans left sound here.
              let fine = fine_here code before.0 a callers at line (ops.Call k) before.1 before.2 plans (length stack) here.0 sound here.2 in
              let callee = sound.each k g there in
              let taken : takes code (ops.Call k) ≡ length g.parameters = ap arguments_taken there in
              let stays = stays_at fine.0 (at + 1) (length stack - takes code (ops.Call k) + 1) fine.2.goes_on in
              let height : length stack - takes code (ops.Call k) + 1 ≡ suc (length rest) = omega (arith, length-drop arity stack) in
              let waits = subst (λ h. slice_get fine.0 (at + 1) ≡ Some (record { height = h; rank = stays.0 })) height stays.1 in (
                callee.2.first.0 + suc (stays.0 + here.1),
                (callee.2.first.0, suc (stays.0 + here.1), (g, callee.0, there, callee.1, callee.2.first.1), (stays.0, here.1, (before.0, fine.0, before.1, fine.1, waits), here.3, refl), refl),
                inl fewer,
              );
        },
        (sym under, (stacked.0 ∙ sym above ∙ ap (λ o. base + frame_of o) (sym there), stacked.1)),
        fewer,
      )

  pub call_stops : (s : State) (space : S) (units : ℕ) (k arity : ℕ) (g : Routine) (stop : Stop) (new : State) (space' : S) (units' : ℕ) → IsBefore code (ops.Call k) line s → slice_get code.functions k ≡ Some g → arity ≡ length g.parameters → arity ≤ length (stack_of s)
      → StopsEntering (metered reply) (spending learn) g (reverse (take arity (stack_of s))) (with_units space units) stop → Comes reply learn place code s space units (events.Stopped stop line) new space' units'
  call_stops (Begin function arguments at) space units k arity g stop new space' units' before there count enough stops = absurd before
  call_stops (At a callers at stack) space units k arity g stop new space' units' before there count enough stops =
      let stopped = stops line in
      let rest = drop arity stack in
      comes_stop code before.0 a callers at line (ops.Call k) before.1 before.2 reply learn place stack space units stop new space' units' (
        stopped.0,
        along_map (metered reply) (spending learn) (λ w tape later. StopsAt stop line (entered w g (reverse (take arity stack)) line tape) later) (λ w tape later. StopsAt stop line (effect w code a callers line at (ops.Call k) stack tape) later)
            (λ w tape later e. call_effect w a callers at k arity g stack tape there count enough ∙ ap (λ o. then_do o (λ base t. Goes (On (At (running k base) (record { activation = a; place = at + 1; stack = rest } ∷ callers) 0 [])) t)) e)
            stopped.1,
      )

  -- ---- calls of tasks

  module _ (a : Activation) (callers : List Caller) (at k : ℕ) (g : Routine) (shape : Shape) (stack : List ℕ) (there : slice_get code.functions k ≡ Some g) (is_task : g.task ≡ Some shape) (enough : all_dimensions shape.arguments + length g.parameters ≤ length stack) where
    abbrev below : List ℕ
    below = drop (all_dimensions shape.arguments) stack

    abbrev dimensions : List ℕ
    dimensions = reverse (take (all_dimensions shape.arguments) stack)

    abbrev arguments : List ℕ
    arguments = reverse (take (length g.parameters) below)

    abbrev rest : List ℕ
    rest = drop (length g.parameters) below

    submit_effect : (w : World) (tape : Tape) → effect w code a callers line at (ops.Submit k) stack tape
        ≡ then_do (ask w (Calls (call_of k g shape arguments dimensions a.base)) line tape) (λ r t. called w code a callers line at k g arguments rest r t)
    submit_effect w tape =
        let first : all_dimensions shape.arguments ≤ length stack = omega arith in
        let second : length g.parameters ≤ length below = omega (arith, length-drop (all_dimensions shape.arguments) stack) in
        let le : nat_le (all_dimensions shape.arguments) (length stack) ≡ true = le-leb _ _ first in
        let le' : nat_le (length g.parameters) (length below) ≡ true = le-leb _ _ second in
        rw (there, is_task, le, le') refl

    submit_runs : IsBefore code (ops.Submit k) line (At a callers at stack) → (w : World) (tape : Tape) (n : ℕ) → exec w code (0 + suc n) (At a callers at stack) tape
        ≡ then_do (ask w (Calls (call_of k g shape (narrowed_to g.parameters arguments) dimensions a.base)) line tape) (λ r t. then_do (behind_call w line k g (narrowed_to g.parameters arguments) r (At a callers (at + 1) (0 ∷ rest)) t) (go_on (exec w code n)))
    submit_runs before w tape n =
        let call = call_of k g shape arguments dimensions a.base in
        rw (same_call k g shape arguments dimensions a.base)
        (exec_at code before.0 a callers at line (ops.Submit k) before.1 before.2 stack w n tape
        ∙ ap (λ o. then_do o (go_on (exec w code n))) (submit_effect w tape)
        ∙ then_assoc (ask w (Calls call) line tape) (λ r t. called w code a callers line at k g arguments rest r t) (go_on (exec w code n))
        ∙ then_same (ask w (Calls call) line tape) (λ r t. then_do (called w code a callers line at k g arguments rest r t) (go_on (exec w code n)))
        (λ r t. then_do (behind_call w line k g (narrowed_to g.parameters arguments) r (At a callers (at + 1) (0 ∷ rest)) t) (go_on (exec w code n)))
        (λ r t. ap (λ o. then_do o (go_on (exec w code n))) (same_behind w code a callers line at k g arguments rest r t)))

    submit_falls : (units : ℕ) → IsBefore code (ops.Submit k) line (At a callers at stack) → Falls code (At a callers at stack) units (At a callers (at + 1) (0 ∷ rest)) units
    submit_falls units before =
        falls_on code before.0 a callers at line (ops.Submit k) before.1 before.2 stack (0 ∷ rest) units
        (λ plan spot height fine.
        let taken : takes code (ops.Submit k) ≡ length g.parameters + all_dimensions shape.arguments = ap (λ o. arguments_taken o + dimensions_taken o) there ∙ ap (λ o. length g.parameters + dimensions_of_task o) is_task in
        let same : spot.height - takes code (ops.Submit k) + 1 ≡ length (0 ∷ rest) = omega (arith, length-drop (length g.parameters) below, length-drop (all_dimensions shape.arguments) stack) in
        subst (Leads plan (at + 1) spot) same fine.goes_on)

    submit_whole : (call : Submitted) → call.function ≡ k → call.arguments.items ≡ narrowed_to g.parameters arguments → call.dims.items ≡ dimensions → IsWhole code call
    submit_whole call named passed given =
        let first : all_dimensions shape.arguments ≤ length stack = omega arith in
        let second : length g.parameters ≤ length below = omega (arith, length-drop (all_dimensions shape.arguments) stack) in
        let count : length arguments ≡ length g.parameters = length-reverse (take (length g.parameters) below) ∙ length-take-le (length g.parameters) below second in
        record {
          function = g;
          shape = shape;
          is_there = rw named there;
          is_task = is_task;
          arguments = rw passed (narrowed_length g.parameters arguments count);
          narrowed = rw passed (narrowed_twice g.parameters arguments);
          dimensions = rw given (length-reverse (take (all_dimensions shape.arguments) stack) ∙ length-take-le (all_dimensions shape.arguments) stack first);
        }

  pub comes_submit : (s : State) (space : S) (units : ℕ) (call : Submitted) (new : State) → IsBefore code (ops.Submit call.function) line s → IsStacked code (place space) s → Submits code s line call new → Comes reply learn place code s space units (events.Submit call) new space units
  comes_submit (Begin function arguments at) space units call new before stacked submits = absurd before
  comes_submit (At a callers at stack) space units call new before stacked submits =
      let g = submits.function in
      let shape = submits.shape in
      let k = call.function in
      let left = At a callers (at + 1) (0 ∷ drop (length g.parameters) (drop (all_dimensions shape.arguments) stack)) in
      rw submits.new_is (
        record {
          end = with_units space units;
          is_left = refl;
          does = along_none (metered reply) (spending learn) (with_units space units) (λ w tape later. Does w code (At a callers at stack) (events.Submit call) left tape later)
              (λ w tape. (
                0,
                g,
                shape,
                submits.is_there,
                submits.is_task,
                λ n.
                    rw (submits.arguments, submits.dimensions, submits.line_is)
                    (submit_runs a callers at k g shape stack submits.is_there submits.is_task submits.cells before w tape n),
              ));
        },
        (tt, submit_falls a callers at k g shape stack submits.is_there submits.is_task submits.cells units before, stacked, submit_whole a callers at k g shape stack submits.is_there submits.is_task submits.cells call refl submits.arguments submits.dimensions),
      )

  -- ---- returns

  -- the first function returns
  pub comes_end : (s : State) (space : S) (units cell : ℕ) (rest : List ℕ) → IsBefore code ops.Ret line s → IsStacked code (place space) s → depth s ≡ 0 → stack_of s ≡ cell ∷ rest → Comes reply learn place code s space units (events.Ended cell line) s space units
  comes_end (Begin function arguments at) space units cell rest before stacked none top = absurd before
  comes_end (At a (c ∷ callers) at stack) space units cell rest before stacked none top = absurd (omega arith)
  comes_end (At a [] at stack) space units cell rest before stacked none top =
      rw top (
        record {
          end = with_units space units;
          is_left = refl;
          does = along_none (metered reply) (spending learn) (with_units space units) (λ w tape later. Does w code (At a [] at (cell ∷ rest)) (events.Ended cell line) (At a [] at (cell ∷ rest)) tape later)
              (λ w tape. (
                0,
                λ n.
                    exec_at code before.0 a [] at line ops.Ret before.1 before.2 (cell ∷ rest) w n tape ∙ rw before.1 refl,
              ));
        },
        (tt, stacked),
      )

  module _ (moves : IsStackPlace reply learn place) where
    pub round_return : (s : State) (space : S) (units cell : ℕ) (rest : List ℕ) (g : Routine) (r : ℕ) → IsBefore code ops.Ret line s → IsStacked code (place space) s → (depth s ≡ 0 → ⊥) → stack_of s ≡ cell ∷ rest → slice_get code.functions (function_of s) ≡ Some g
        → reply space (Leave (place space) g.frame) ≡ Says r → ComesRound reply learn place code s space units rounds.Returns (returned cell s) (learn space (Leave (place space) g.frame)) units
    round_return (Begin function arguments at) space units cell rest g r before stacked some top is says = absurd before
    round_return (At a [] at stack) space units cell rest g r before stacked some top is says = absurd (some refl)
    round_return (At a (c ∷ callers) at stack) space units cell rest g r before stacked some top is says =
        let there = At c.activation callers c.place (cell ∷ c.stack) in
        let m = with_units space units in
        rw top (
          record {
            steps = 1;
            goes =
                step_at code before.0 a (c ∷ callers) at line ops.Ret before.1 before.2 (metered reply) (spending learn) (cell ∷ rest) there
                (rw (is, before.3, stacked.0)
                (along_says_then (metered reply) (spending learn) m (Leave (place space) g.frame) line refl (λ w r t. Goes (On there) t) r says));
            falls = λ plans left sound here.
                let waits = here.3 in (
                  waits.0 + waits.1,
                  (waits.0, waits.1, waits.2, waits.3, refl),
                  inr (refl, omega (arith, here.4, waits.4)),
                );
          },
          (stacked.1.0 ∙ ap (λ o. a.base + frame_of o) is ∙ ap (λ n. n + g.frame) stacked.0 ∙ sym (moves.leaves space g.frame r says), stacked.1.1),
          refl,
          omega arith,
        )

  pub return_stops : (s : State) (space : S) (units cell : ℕ) (rest : List ℕ) (g : Routine) (stop : Stop) (new : State) (space' : S) (units' : ℕ) → IsBefore code ops.Ret line s → IsStacked code (place space) s → (depth s ≡ 0 → ⊥) → stack_of s ≡ cell ∷ rest → slice_get code.functions (function_of s) ≡ Some g
      → IsRefusal (reply space (Leave (place space) g.frame)) stop → Comes reply learn place code s space units (events.Stopped stop line) new space' units'
  return_stops (Begin function arguments at) space units cell rest g stop new space' units' before stacked some top is refusal = absurd before
  return_stops (At a [] at stack) space units cell rest g stop new space' units' before stacked some top is refusal = absurd (some refl)
  return_stops (At a (c ∷ callers) at stack) space units cell rest g stop new space' units' before stacked some top is refusal =
      let there = At c.activation callers c.place (cell ∷ c.stack) in
      let m = with_units space units in
      rw top
      (comes_stop code before.0 a (c ∷ callers) at line ops.Ret before.1 before.2 reply learn place (cell ∷ rest) space units stop new space' units'
      (rw (is, before.3, stacked.0)
      (along_refused_then (metered reply) (spending learn) m (Leave (place space) g.frame) line refl (λ w r t. Goes (On there) t) stop refusal)))

  -- ---- the entry of the first function

  pub round_begin : (k : ℕ) (arguments : List ℕ) (space : S) (units base : ℕ) (g : Routine) (space' : S) (units' : ℕ) → slice_get code.functions k ≡ Some g → Enters (metered reply) (spending learn) g arguments (with_units space units) base (with_units space' units') → units' < units
      → place space' ≡ base → ComesRound reply learn place code (Begin k arguments line) space units rounds.Enters (At (running k base) [] 0 []) space' units'
  round_begin k arguments space units base g space' units' there enters fewer under = (
    record {
      steps = 1;
      goes = along_map (metered reply) (spending learn) (λ w tape later. entered w g arguments line tape ≡ Goes base later) (ComesOn code (Begin k arguments line) 1 (At (running k base) [] 0 []))
          (λ w tape later e n.
          let one : 1 + n ≡ suc n = omega arith in
          rw (one, there) (ap (λ o. then_do (then_do o (λ base t. Goes (On (At (running k base) [] 0 [])) t)) (go_on (exec w code n))) e))
          (enters line);
      falls = λ plans left sound here.
          let callee = sound.each k g there in (
            callee.2.first.0 + 0,
            (callee.2.first.0, 0, (g, callee.0, there, callee.1, callee.2.first.1), refl, refl),
            inl fewer,
          );
    },
    (sym under, tt),
    fewer,
  )

  pub begin_stops : (k : ℕ) (arguments : List ℕ) (space : S) (units : ℕ) (g : Routine) (stop : Stop) (new : State) (space' : S) (units' : ℕ) → slice_get code.functions k ≡ Some g → StopsEntering (metered reply) (spending learn) g arguments (with_units space units) stop
      → Comes reply learn place code (Begin k arguments line) space units (events.Stopped stop line) new space' units'
  begin_stops k arguments space units g stop new space' units' there stops =
      let stopped = stops line in (
        record {
          end = stopped.0;
          is_left = tt;
          does = along_map (metered reply) (spending learn) (λ w tape later. StopsAt stop line (entered w g arguments line tape) later)
              (λ w tape later. Does w code (Begin k arguments line) (events.Stopped stop line) new tape later)
              (λ w tape later e. (
                0,
                λ n.
                    rw (zero-add, there) (ap (λ o. then_do (then_do o (λ base t. Goes (On (At (running k base) [] 0 [])) t)) (go_on (exec w code n))) e),
              ))
              stopped.1;
        },
        tt,
      )

-- a task's dimensions and arguments are on the stack
pub submit_finds : (code : Code) (k line : ℕ) (s : State) (g : Routine) (shape : Shape) → Fits code s → IsBefore code (ops.Submit k) line s → slice_get code.functions k ≡ Some g → g.task ≡ Some shape → all_dimensions shape.arguments + length g.parameters ≤ length (stack_of s)
submit_finds code k line s g shape fits before there is_task =
    let finds = finds_before code (ops.Submit k) line s fits before in
    let taken : takes code (ops.Submit k) ≡ length g.parameters + all_dimensions shape.arguments = ap (λ o. arguments_taken o + dimensions_taken o) there ∙ ap (λ o. length g.parameters + dimensions_of_task o) is_task in
    omega arith

-- the stack without its topmost cells
pub stack_dropped : (count : ℕ) (s : State) → stack_of (dropped count s) ≡ drop count (stack_of s)
stack_dropped zero (Begin function arguments line) = refl
stack_dropped (suc count) (Begin function arguments line) = refl
stack_dropped count (At a callers place stack) = refl

-- the arguments are there below the dimensions
pub arguments_there : (code : Code) (k line : ℕ) (s : State) (g : Routine) (shape : Shape) (count : ℕ) → Fits code s → IsBefore code (ops.Submit k) line s → slice_get code.functions k ≡ Some g → g.task ≡ Some shape → count ≡ all_dimensions shape.arguments → length g.parameters ≤ length (stack_of (dropped count s))
arguments_there code k line s g shape count fits before there is_task is =
    let enough = submit_finds code k line s g shape fits before there is_task in
    omega (arith, ap length (stack_dropped count s), length-drop count (stack_of s))
