-- What a step of the machine does at an instruction inside a function, whatever the code and the callers.
use Rattle.std.proofs.Common.{◌≡◌, ℕ, zero, suc, ◌+◌, ◌-◌, ◌<◌, ◌≤◌, List, ◌∷◌, length, Some, slice_get, IsTrue, nat_eq, true, false, refl, ◌∙◌, ap, subst, arith, zero-add}
use Rattle.std.proofs.Math.Dec.{eqb-suc-zero}
use Rattle.css_base.specs.declared.ending.Stop.{Stop}
use Rattle.css_semantics.specs.Dialogue.{Action, Reply, Tape, World, Outcome, Goes, Stops, then_do}
use Rattle.css_vm.specs.declared.code.Instr.{Instr}
use Rattle.css_vm.specs.declared.code.Op.{Op}
use Rattle.css_vm.specs.declared.code.Op.TheVariants as ops
use Rattle.css_vm.specs.declared.step.Pause.{Pause}
use Rattle.css_vm.specs.declared.step.Pause.TheVariants as pauses
use Rattle.css_vm.specs.Code.{Routine, Code}
use Rattle.css_vm.specs.Machine.{State, At, Activation, Caller, On, effect, at_instr, on_function, exec, go_on}
use Rattle.css_vm.specs.Soundness.{Spot, Stays, Leads, GoesOn, IsFine, IsSoundBody, takes, gives}
use Rattle.css_vm.specs.Events.{Along, StopsAt}
use Rattle.css_vm.specs.Effects.{goes_on, no_functions, Performs, Halts}
use Rattle.css_vm.specs.Stacks.{running}
use Rattle.css_vm.specs.Steps.{is_pause, IsPlaced, ComesOn, ComesToStop, RanInside, StopsInside, Pauses}
use Rattle.css_vm.proofs.Requests.{along_map, along_then, along_none}

pub then_assoc : {A B C : Type 0} (o : Outcome A) (f : A → Tape → Outcome B) (g : B → Tape → Outcome C) → then_do (then_do o f) g ≡ then_do o (λ a t. then_do (f a t) g)
then_assoc (Goes a t) f g = refl
then_assoc (Stops why t) f g = refl

nat_eq_zero : (n : ℕ) → (n ≡ 0 → ⊥) → nat_eq n 0 ≡ false
nat_eq_zero zero apart = absurd (apart refl)
nat_eq_zero (suc n) apart = eqb-suc-zero n

-- ---- a plan at a place

-- at a place of a sound plan stands an instruction that finds its cells
pub fine_at : (code : Code) (f : Routine) (plan : List Spot) (i : Instr) (place : ℕ) (spot : Spot) → IsSoundBody code f plan → slice_get f.body place ≡ Some i → slice_get plan place ≡ Some spot → IsFine code plan place spot i.op
fine_at code f plan i place spot sound at here =
    let each = sound.each place spot here in
    let same : each.0 ≡ i = cc in
    subst (λ (j : Instr). IsFine code plan place spot j.op) same each.2

-- an instruction that goes on takes and gives the same in each code
same_takes : (code : Code) (op : Op) → IsTrue (goes_on op) → takes code op ≡ takes no_functions op
same_takes code (ops.Call k) h = absurd (cc)
same_takes code (ops.Submit k) h = absurd (cc)
same_takes code _ h = refl

same_gives : (code : Code) (op : Op) → gives code op ≡ gives no_functions op
same_gives code _ = refl

pub leads_on : (code : Code) (plan : List Spot) (place : ℕ) (spot : Spot) (op : Op) → IsTrue (goes_on op) → GoesOn code plan place spot op → Leads plan (place + 1) spot (spot.height - takes code op + gives code op)
leads_on code plan place spot (ops.Jump to) h goes = absurd (cc)
leads_on code plan place spot (ops.Jumpz to) h goes = absurd (cc)
leads_on code plan place spot (ops.Call k) h goes = absurd (cc)
leads_on code plan place spot (ops.Submit k) h goes = absurd (cc)
leads_on code plan place spot (ops.Mark kind) h goes = absurd (cc)
leads_on code plan place spot ops.Turn h goes = absurd (cc)
leads_on code plan place spot (ops.Out c) h goes = absurd (cc)
leads_on code plan place spot ops.Ret h goes = absurd (cc)
leads_on code plan place spot _ h goes = goes

-- a place where the plan has this height and a lower rank
pub next_at : (plan : List Spot) (to rank height next-height : ℕ) → Leads plan to (record { height = height; rank = rank }) next-height → (next : ℕ) × (next < rank) × (slice_get plan to ≡ Some (record { height = next-height; rank = next }))
next_at plan to rank height next-height leads =
    (leads.0.rank, leads.3, leads.1 ∙ ap (λ h. let spot : Spot = record { height = h; rank = leads.0.rank } in Some spot) leads.2)

pub stays_at : (plan : List Spot) (to height : ℕ) → Stays plan to height → (next : ℕ) × (slice_get plan to ≡ Some (record { height = height; rank = next }))
stays_at plan to height stays =
    (stays.0.rank, stays.1 ∙ ap (λ h. let spot : Spot = record { height = h; rank = stays.0.rank } in Some spot) stays.2)

-- ---- steps

-- a step at an instruction takes its effect
pub exec_step : (code : Code) (f : Routine) (i : Instr) (a : Activation) (callers : List Caller) (place : ℕ) → slice_get code.functions a.function ≡ Some f → slice_get f.body place ≡ Some i → (stack : List ℕ) (w : World) (n : ℕ) (tape : Tape) →
    exec w code (suc n) (At a callers place stack) tape ≡ then_do (effect w code a callers i.line place i.op stack tape) (go_on (exec w code n))
exec_step code f i a callers place is at stack w n tape =
    ap (λ o. then_do (on_function o tape (λ g. at_instr w code (slice_get g.body place) a callers place stack tape)) (go_on (exec w code n))) is
    ∙ ap (λ o. then_do (at_instr w code o a callers place stack tape) (go_on (exec w code n))) at

module _ {S : Type 0} (reply : S → Action → Reply) (learn : S → Action → S) (code : Code) where
  pub on_none : (s : State) (space : S) → Along reply learn space space (ComesOn code s 0 s)
  on_none s space = along_none reply learn space (ComesOn code s 0 s) (λ w tape n. rw zero-add)

  -- steps behind steps
  pub on_then : {space mid space' : S} (old here new : State) (m n : ℕ) → Along reply learn space mid (ComesOn code old m here) → Along reply learn mid space' (ComesOn code here n new) → Along reply learn space space' (ComesOn code old (m + n) new)
  on_then old here new m n along more =
      along_then reply learn (ComesOn code old m here) (ComesOn code here n new) (ComesOn code old (m + n) new)
      (λ w tape at later one two k.
      let both : m + n + k ≡ m + (n + k) = omega arith in
      rw both (one (n + k) ∙ two k))
      along more

  pub on_stops : {space mid space' : S} (old here : State) (m n : ℕ) (stop : Stop) (line : ℕ) → Along reply learn space mid (ComesOn code old m here) → Along reply learn mid space' (ComesToStop code here n stop line) → Along reply learn space space' (ComesToStop code old (m + n) stop line)
  on_stops old here m n stop line along more =
      along_then reply learn (ComesOn code old m here) (ComesToStop code here n stop line) (ComesToStop code old (m + n) stop line)
      (λ w tape at later one two k.
      let both : m + n + suc k ≡ m + (n + suc k) = omega arith in
      rw both (one (n + suc k) ∙ two k))
      along more

  module _ (f : Routine) (i : Instr) (a : Activation) (callers : List Caller) (place : ℕ) (is : slice_get code.functions a.function ≡ Some f) (at : slice_get f.body place ≡ Some i) (stack : List ℕ) where
    -- one step, by the instruction's effect
    pub step_on : {space space' : S} (new : State) → Along reply learn space space' (λ w tape later. effect w code a callers i.line place i.op stack tape ≡ Goes (On new) later) → Along reply learn space space' (ComesOn code (At a callers place stack) 1 new)
    step_on new does =
        along_map reply learn (λ w tape later. effect w code a callers i.line place i.op stack tape ≡ Goes (On new) later) (ComesOn code (At a callers place stack) 1 new)
        (λ w tape later e n.
        let one : 1 + n ≡ suc n = omega arith in
        rw one (exec_step code f i a callers place is at stack w n tape ∙ ap (λ o. then_do o (go_on (exec w code n))) e))
        does

    pub step_stops : {space space' : S} (stop : Stop) (line : ℕ) → Along reply learn space space' (λ w tape later. StopsAt stop line (effect w code a callers i.line place i.op stack tape) later) → Along reply learn space space' (ComesToStop code (At a callers place stack) 0 stop line)
    step_stops stop line stops =
        along_map reply learn (λ w tape later. StopsAt stop line (effect w code a callers i.line place i.op stack tape) later) (ComesToStop code (At a callers place stack) 0 stop line)
        (λ w tape later there n.
        rw (zero-add, exec_step code f i a callers place is at stack w n tape)
        (ap (λ o. then_do o (go_on (exec w code n))) there))
        stops

module _ (f : Routine) (i : Instr) (base place : ℕ) (at : slice_get f.body place ≡ Some i) where
  -- where the plan leads on, the rank falls
  lower_at : (old : List ℕ) (to : ℕ) (new : List ℕ) → ((code : Code) (plan : List Spot) (spot : Spot) → spot.height ≡ length old → IsFine code plan place spot i.op → Leads plan to spot (length new))
      → (code : Code) (plan : List Spot) (rank : ℕ) → IsSoundBody code f plan → slice_get plan place ≡ Some (record { height = length old; rank = rank })
      → (next : ℕ) × (next < rank) × (slice_get plan to ≡ Some (record { height = length new; rank = next }))
  lower_at old to new leads code plan rank sound here =
      let spot : Spot = record { height = length old; rank = rank } in
      next_at plan to rank (length old) (length new) (leads code plan spot refl (fine_at code f plan i place spot sound at here))

  module _ {S : Type 0} (reply : S → Action → Reply) (learn : S → Action → S) where
    ran_to : (old : List ℕ) (to : ℕ) (new : List ℕ) (space space' : S)
        → ((code : Code) (function : ℕ) (callers : List Caller) → Along reply learn space space' (λ w tape later. effect w code (running function base) callers i.line place i.op old tape ≡ Goes (On (At (running function base) callers to new)) later))
        → ((code : Code) (plan : List Spot) (spot : Spot) → spot.height ≡ length old → IsFine code plan place spot i.op → Leads plan to spot (length new)) → RanInside reply learn f base place old space 1 to new space'
    ran_to old to new space space' does leads = record {
      goes = λ code function callers is. step_on reply learn code f i (running function base) callers place is at old (At (running function base) callers to new) (does code function callers);
      falls = λ code plan rank sound here.
          let there = lower_at old to new leads code plan rank sound here in
          (there.0, omega (arith, there.1), there.2);
    }

    -- an instruction that goes on at the next place
    pub ran_performs : (old new : List ℕ) (space space' : S) → IsTrue (goes_on i.op) → Performs reply learn i.op base old space new space' → RanInside reply learn f base place old space 1 (place + 1) new space'
    ran_performs old new space space' on performs =
        ran_to old (place + 1) new space space' (λ code function callers. performs.does code function callers i.line place)
        (λ code plan spot height fine.
        let same : spot.height - takes code i.op + gives code i.op ≡ length new = omega (arith, same_takes code i.op on, same_gives code i.op, performs.height, height) in
        subst (Leads plan (place + 1) spot) same (leads_on code plan place spot i.op on fine.goes_on))

    pub ran_jump : (to : ℕ) (stack : List ℕ) (space : S) → i.op ≡ ops.Jump to → RanInside reply learn f base place stack space 1 to stack space
    ran_jump to stack space op =
        ran_to stack to stack space space
        (λ code function callers. along_none reply learn space (λ w tape later. effect w code (running function base) callers i.line place i.op stack tape ≡ Goes (On (At (running function base) callers to stack)) later) (λ w tape. rw op))
        (λ code plan spot height fine. subst (Leads plan to spot) height (rw op at fine.goes_on))

    module _ (to cell : ℕ) (rest : List ℕ) (space : S) (op : i.op ≡ ops.Jumpz to) where
      pub ran_jumpz_taken : cell ≡ 0 → RanInside reply learn f base place (cell ∷ rest) space 1 to rest space
      ran_jumpz_taken is =
          ran_to (cell ∷ rest) to rest space space
          (λ code function callers. along_none reply learn space (λ w tape later. effect w code (running function base) callers i.line place i.op (cell ∷ rest) tape ≡ Goes (On (At (running function base) callers to rest)) later) (λ w tape. rw (op, is)))
          (λ code plan spot height fine.
          let below : spot.height - 1 ≡ length rest = omega arith in
          let leads = rw op at fine.goes_on in
          subst (Leads plan to spot) below leads.0)

      pub ran_jumpz_passed : (cell ≡ 0 → ⊥) → RanInside reply learn f base place (cell ∷ rest) space 1 (place + 1) rest space
      ran_jumpz_passed apart =
          let is = nat_eq_zero cell apart in
          ran_to (cell ∷ rest) (place + 1) rest space space
          (λ code function callers. along_none reply learn space (λ w tape later. effect w code (running function base) callers i.line place i.op (cell ∷ rest) tape ≡ Goes (On (At (running function base) callers (place + 1) rest)) later) (λ w tape. rw (op, is)))
          (λ code plan spot height fine.
          let below : spot.height - 1 ≡ length rest = omega arith in
          let leads = rw op at fine.goes_on in
          subst (Leads plan (place + 1) spot) below leads.1)

    pub stops_here : (old : List ℕ) (space : S) (stop : Stop) → Halts reply learn i.op base old space stop → StopsInside reply learn f base place old space stop i.line
    stops_here old space stop halts = λ code function callers is.
        let stopped = halts.stops code function callers i.line place in (
          stopped.0,
          0,
          step_stops reply learn code f i (running function base) callers place is at old stop i.line stopped.1,
        )

-- ---- steps in a row

module _ {S : Type 0} (reply : S → Action → Reply) (learn : S → Action → S) (f : Routine) (base place : ℕ) (stack : List ℕ) (space : S) where
  pub ran_none : RanInside reply learn f base place stack space 0 place stack space
  ran_none = record {
    goes = λ code function callers is. on_none reply learn code (At (running function base) callers place stack) space;
    falls = λ code plan rank sound here. (rank, omega arith, here);
  }

  -- an instruction at which the steps pause
  pub pauses_here : (i : Instr) → slice_get f.body place ≡ Some i → is_pause i.op ≡ true → Pauses reply learn f base place stack space (pauses.At i.op i.line) place stack space
  pauses_here i at is = (0, ran_none, (i, at, refl, refl), is)

  module _ {m mid : ℕ} {stack' : List ℕ} {space' : S} (ran : RanInside reply learn f base place stack space m mid stack' space') where
    pub ran_then : {n later : ℕ} {stack'' : List ℕ} {space'' : S} → RanInside reply learn f base mid stack' space' n later stack'' space'' → RanInside reply learn f base place stack space (m + n) later stack'' space''
    ran_then {n = n} {later = later} {stack'' = stack''} more = record {
      goes = λ code function callers is. on_then reply learn code (At (running function base) callers place stack) (At (running function base) callers mid stack') (At (running function base) callers later stack'') m n (ran.goes code function callers is) (more.goes code function callers is);
      falls = λ code plan rank sound at.
          let one = ran.falls code plan rank sound at in
          let two = more.falls code plan one.0 sound one.2 in
          (two.0, omega (arith, one.1, two.1), two.2);
    }

    -- the place that is come to stands in the plan
    pub ran_placed : IsPlaced f place (length stack) → IsPlaced f mid (length stack')
    ran_placed placed =
        let here = ran.falls placed.0 placed.1 placed.2 placed.3 placed.4 in
        (placed.0, placed.1, here.0, placed.3, here.2)

    -- there are no more steps than instructions
    pub steps_within : IsPlaced f place (length stack) → m ≤ length f.body
    steps_within placed =
        let here = ran.falls placed.0 placed.1 placed.2 placed.3 placed.4 in
        let most = (placed.3.each place (record { height = length stack; rank = placed.2 }) placed.4).3 in
        omega (arith, here.1, most)

    pub ran_pauses : (pause : Pause) (later : ℕ) (stack'' : List ℕ) (space'' : S) → Pauses reply learn f base mid stack' space' pause later stack'' space'' → Pauses reply learn f base place stack space pause later stack'' space''
    ran_pauses (pauses.At op line) later stack'' space'' more = (m + more.0, ran_then more.1, more.2, more.3)
    ran_pauses (pauses.Stopped stop line) later stack'' space'' more = λ code function callers is.
        let stopped = more code function callers is in (
          stopped.0,
          m + stopped.1,
          on_stops reply learn code (At (running function base) callers place stack) (At (running function base) callers mid stack') m stopped.1 stop line (ran.goes code function callers is) stopped.2,
        )
