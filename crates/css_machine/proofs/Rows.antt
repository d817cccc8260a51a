-- Steps in a row inside a function.
use Rattle.std.proofs.Common.{◌≡◌, ℕ, zero, suc, ◌+◌, ◌-◌, ◌<◌, ◌≤◌, List, [], length, Some, slice_get, refl, sym, ◌∙◌, ap, subst, arith, zero-add, inl, inr}
use Rattle.std.proofs.lemmas.Option.{same_Some}
use Rattle.css_base.specs.declared.ending.Stop.{Stop}
use Rattle.css_base.specs.declared.ending.Stop.TheVariants as stops
use Rattle.css_base.specs.declared.rule.Rule.TheVariants.{Units}
use Rattle.css_semantics.specs.Dialogue.{Action, Turn, Reply, Says, Goes, Mode, then_do, ask_in}
use Rattle.css_semantics.specs.Units.{with_units, within, metered, spending}
use Rattle.css_isa.specs.declared.code.Instr.{Instr}
use Rattle.css_isa.specs.declared.code.Op.{Op}
use Rattle.css_isa.specs.declared.code.Op.TheVariants as ops
use Rattle.css_isa.specs.Code.{Routine, Code}
use Rattle.css_isa.specs.Roles.{Role, Straight, Turning, Outward, Telling, Awaiting, Changing, Testing, Jumping, Branching, Calling, Submitting, Returning, role_of}
use Rattle.css_isa.specs.Steps.{Activation, Caller, State, At, Notifies, act, step_of}
use Rattle.css_isa.specs.Machine.{exec}
use Rattle.css_isa.specs.Soundness.{Spot, Plan, spot_at, cells_needed, LeadsOn, IsSoundBody, IsSound, IsAt}
use Rattle.css_machine.specs.declared.turns.Pause.{Pause}
use Rattle.css_machine.specs.declared.turns.Pause.TheVariants as pauses
use Rattle.css_machine.specs.Events.{Along, stops_in}
use Rattle.css_machine.specs.Steps.{cells_inside, room_inside, Here, here, at, ComesOn, ComesToStop, IsOver, RanInside, HasRoom, StopsInside, IsNoHigher, Went, WentInside, PausesInside}
use Rattle.css_machine.proofs.Requests.{stops_then, along_map, along_then, along_none, along_says, along_refused}
use Rattle.css_machine.proofs.Inside.{one_more, none_more, act_at, leads_at}

-- ---- in worlds

module _ {S : Type 0} (reply : S → Action → Reply) (learn : S → Action → S) (code : Code) where
  pub on_none : (s : State) (space : S) → Along reply learn space space (ComesOn code s 0 s)
  on_none s space = along_none reply learn space (ComesOn code s 0 s) (λ w tape n. rw zero-add)

  -- steps behind steps
  pub on_then : {space mid space' : S} (old here new : State) (m n : ℕ) → Along reply learn space mid (ComesOn code old m here) → Along reply learn mid space' (ComesOn code here n new) → Along reply learn space space' (ComesOn code old (m + n) new)
  on_then old here new m n along more =
      along_then reply learn (ComesOn code old m here) (ComesOn code here n new) (ComesOn code old (m + n) new)
      (λ w tape at later one two k.
      let both : m + n + k ≡ m + (n + k) = omega arith in
      rw both (one (n + k) ∙ two k))
      along more

  pub on_stops : {space mid space' : S} (old here : State) (m n : ℕ) (mode : Mode) (stop : Stop) (line : ℕ) → Along reply learn space mid (ComesOn code old m here) → Along reply learn mid space' (ComesToStop code here n mode stop line) → Along reply learn space space' (ComesToStop code old (m + n) mode stop line)
  on_stops old here m n mode stop line along more =
      along_then reply learn (ComesOn code old m here) (ComesToStop code here n mode stop line) (ComesToStop code old (m + n) mode stop line)
      (λ w tape at later one two k.
      let both : m + n + suc k ≡ m + (n + suc k) = omega arith in
      rw both (one (n + suc k) ∙ two k))
      along more

-- ---- steps by themselves

module _ {S : Type 0} (reply : S → Action → Reply) (learn : S → Action → S) (f : Routine) (base : ℕ) (old : Here) (space : S) where
  pub ran_none : RanInside reply learn f base old space 0 old space
  ran_none = record {
    goes = λ code a callers over. on_none reply learn code (at a callers old) space;
    falls = λ code plans a callers left over sound here. (left, omega arith, here);
  }

  module _ {m : ℕ} {mid : Here} {space' : S} (ran : RanInside reply learn f base old space m mid space') where
    pub ran_then : {n : ℕ} {new : Here} {space'' : S} → RanInside reply learn f base mid space' n new space'' → RanInside reply learn f base old space (m + n) new space''
    ran_then {n = n} {new = new} more = record {
      goes = λ code a callers over. on_then reply learn code (at a callers old) (at a callers mid) (at a callers new) m n (ran.goes code a callers over) (more.goes code a callers over);
      falls = λ code plans a callers left over sound here.
          let one = ran.falls code plans a callers left over sound here in
          let two = more.falls code plans a callers one.0 over sound one.2 in
          (two.0, omega (arith, one.1, two.1), two.2);
    }

    pub ran_stops : (stop : Stop) (mode : Mode) (line : ℕ) → StopsInside reply learn f base mid space' stop mode line → StopsInside reply learn f base old space stop mode line
    ran_stops stop mode line stops = λ code a callers over.
        let stopped = stops code a callers over in (
          stopped.0,
          m + stopped.1,
          on_stops reply learn code (at a callers old) (at a callers mid) m stopped.1 mode stop line (ran.goes code a callers over) stopped.2,
        )

    -- there is still room where as many cells at most have come as there were steps
    pub ran_room : (room room' : ℕ) → HasRoom f base old room → room ≤ room' + m → HasRoom f base mid room'
    ran_room room room' has enough =
        let there = ran.falls has.0 has.1 has.2 [] has.3 has.4 has.5 has.6 in
        (has.0, has.1, has.2, there.0, has.4, has.5, there.2, omega (arith, there.1, has.7, enough))

-- ---- what a sound machine finds inside a function

-- the plan of a function, at a place of it
pub plan_at : (code : Code) (plans : List Plan) (f : Routine) (a : Activation) (callers : List Caller) (place : ℕ) (own : List ℕ) (left : ℕ) → IsSound code plans → slice_get code.functions a.function ≡ Some f → IsAt code plans left (At a callers place own)
    → (plan : Plan) × (rank : ℕ) × IsSoundBody code f plan × (spot_at plan place ≡ Some (record { height = length own; mode = a.mode; rank = rank })) × (rank ≤ left)
plan_at code plans f a callers place own left sound is here =
    let each = sound.each a.function f is in
    let same : here.2.1 ≡ each.0 = same_Some here.2.1 each.0 (sym here.2.3 ∙ each.1) in
    (each.0, here.0, each.2, subst (λ (plan : Plan). spot_at plan place ≡ Some (record { height = length own; mode = a.mode; rank = here.0 })) same here.2.4, omega (arith, here.4))

cells_within : (code : Code) (role : Role) → cells_inside role ≤ cells_needed code role
cells_within code (Straight needed taken given) = omega arith
cells_within code Turning = omega arith
cells_within code (Outward taken given) = omega arith
cells_within code Telling = omega arith
cells_within code Awaiting = omega arith
cells_within code (Changing mode) = omega arith
cells_within code Testing = omega arith
cells_within code (Jumping to) = omega arith
cells_within code (Branching to) = omega arith
cells_within code (Calling k) = omega arith
cells_within code (Submitting k) = omega arith
cells_within code Returning = omega arith

room_within : (code : Code) (plan : Plan) (place : ℕ) (spot : Spot) (role : Role) → LeadsOn code plan place spot role → room_inside role ≤ spot.rank
room_within code plan place spot (Straight needed taken given) leads = omega (arith, leads.4)
room_within code plan place spot Turning leads = omega arith
room_within code plan place spot (Outward taken given) leads = omega arith
room_within code plan place spot Telling leads = omega arith
room_within code plan place spot Awaiting leads = omega arith
room_within code plan place spot (Changing mode) leads = omega arith
room_within code plan place spot Testing leads = omega arith
room_within code plan place spot (Jumping to) leads = omega arith
room_within code plan place spot (Branching to) leads = omega arith
room_within code plan place spot (Calling k) leads = omega arith
room_within code plan place spot (Submitting k) leads = omega arith
room_within code plan place spot Returning leads = omega arith

-- an instruction that finds its cells and room
pub finds_inside : (f : Routine) (base : ℕ) (h : Here) (room : ℕ) → HasRoom f base h room
    → (i : Instr) × (slice_get f.body h.place ≡ Some i) × (cells_inside (role_of i.op) ≤ length h.own) × (room_inside (role_of i.op) ≤ room)
finds_inside f base h room has =
    let a : Activation = record has.2 { mode = h.mode } in
    let plan = plan_at has.0 has.1 f a [] h.place h.own has.3 has.5 has.4.0 has.6 in
    let spot : Spot = record { height = length h.own; mode = h.mode; rank = plan.1 } in
    let each = plan.2.each h.place spot plan.3 in
    (each.0, each.1, omega (arith, cells_within has.0 (role_of each.0.op), each.2.finds), omega (arith, room_within has.0 plan.0 h.place spot (role_of each.0.op) each.2.goes_on, plan.4, has.7))

-- where the cells below stay, and one cell at most comes with each step, there is still room
pub still_room : {S : Type 0} (reply : S → Action → Reply) (learn : S → Action → S) (f : Routine) (base : ℕ) (old : Here) (space : S) (m : ℕ) (mid : Here) (space' : S) → RanInside reply learn f base old space m mid space' → (capacity capacity' : ℕ) (below below' : List ℕ)
    → HasRoom f base old (capacity - (length below + length old.own)) → capacity' ≡ capacity → below' ≡ below → length mid.own ≤ length old.own + m → HasRoom f base mid (capacity' - (length below' + length mid.own))
still_room reply learn f base old space m mid space' ran capacity capacity' below below' has same-capacity same-below height =
    ran_room reply learn f base old space ran (capacity - (length below + length old.own)) (capacity' - (length below' + length mid.own)) has (omega (arith, same-capacity, ap length same-below, height))

-- there are no more steps left than instructions
few_left : (code : Code) (plans : List Plan) (f : Routine) (a : Activation) (place : ℕ) (own : List ℕ) (left : ℕ) → IsSound code plans → slice_get code.functions a.function ≡ Some f → IsAt code plans left (At a [] place own) → left ≤ length f.body
few_left code plans f a place own left sound is here =
    let each = sound.each a.function f is in
    let same : here.2.1 ≡ each.0 = same_Some here.2.1 each.0 (sym here.2.3 ∙ each.1) in
    let at = subst (λ (plan : Plan). spot_at plan place ≡ Some (record { height = length own; mode = a.mode; rank = here.0 })) same here.2.4 in
    let most = (each.2.each place (record { height = length own; mode = a.mode; rank = here.0 }) at).3 in
    omega (arith, most, here.3, here.4)

pub steps_within : {S : Type 0} (reply : S → Action → Reply) (learn : S → Action → S) (f : Routine) (base : ℕ) (old : Here) (space : S) (m : ℕ) (mid : Here) (space' : S) (room : ℕ) → RanInside reply learn f base old space m mid space' → HasRoom f base old room → m ≤ length f.body
steps_within reply learn f base old space m mid space' room ran has =
    let there = ran.falls has.0 has.1 has.2 [] has.3 has.4 has.5 has.6 in
    let few = few_left has.0 has.1 f (record has.2 { mode = old.mode }) old.place old.own has.3 has.5 has.4.0 has.6 in
    omega (arith, there.1, few)

-- where there is room for as many cells as instructions, there is room
pub fits_room : (code : Code) (plans : List Plan) (f : Routine) (base : ℕ) (a : Activation) (callers : List Caller) (h : Here) (left room : ℕ) → IsOver code f base a → IsSound code plans → IsAt code plans left (at a callers h) → length f.body ≤ room → HasRoom f base h room
fits_room code plans f base a callers h left room over sound here enough =
    let b : Activation = record a { mode = h.mode } in
    let alone : IsAt code plans (here.0 + 0) (at a [] h) = (here.0, 0, here.2, refl, refl) in
    let few = few_left code plans f b h.place h.own (here.0 + 0) sound over.0 alone in
    (code, plans, a, here.0 + 0, over, sound, alone, omega (arith, few, enough))

-- ---- with turns

pub no_higher : (units left : ℕ) → IsNoHigher units left units left
no_higher units left = inr (refl, omega arith)

-- neither rises over two parts
pub no_higher_then : (a x b y c z : ℕ) → IsNoHigher b y a x → IsNoHigher c z b y → IsNoHigher c z a x
no_higher_then a x b y c z (inl fewer) (inl more) = inl (omega arith)
no_higher_then a x b y c z (inl fewer) (inr more) = inl (omega (arith, more.0))
no_higher_then a x b y c z (inr kept) (inl more) = inl (omega (arith, kept.0))
no_higher_then a x b y c z (inr kept) (inr more) = inr (more.0 ∙ kept.0, omega (arith, kept.1, more.1))

within_some : (units : ℕ) (r : Reply) → 0 < units → within units r ≡ r
within_some zero r some = absurd (omega arith)
within_some (suc units) r some = refl

module _ {S : Type 0} (reply : S → Action → Reply) (learn : S → Action → S) (code : Code) where
  pub went_none : (s : State) (space : S) (units : ℕ) → Went reply learn code s space units s space units
  went_none s space units = record {
    steps = 0;
    goes = on_none (metered reply) (spending learn) code s (with_units space units);
    falls = λ plans left sound here. (left, here, no_higher units left);
  }

  pub went_then : {old mid new : State} {space here later : S} {a b c : ℕ} → Went reply learn code old space a mid here b → Went reply learn code mid here b new later c → Went reply learn code old space a new later c
  went_then {old} {mid} {new} {a = a} {b = b} {c = c} went more = record {
    steps = went.steps + more.steps;
    goes = on_then (metered reply) (spending learn) code old mid new went.steps more.steps went.goes more.goes;
    falls = λ plans left sound at.
        let one = went.falls plans left sound at in
        let two = more.falls plans one.0 sound one.1 in
        (two.0, two.1, no_higher_then a left b one.0 c two.0 one.2 two.2);
  }

module _ {S : Type 0} (reply : S → Action → Reply) (learn : S → Action → S) (f : Routine) (base : ℕ) where
  pub inside_none : (h : Here) (space : S) (units : ℕ) → WentInside reply learn f base h space units h space units
  inside_none h space units = λ code a callers over. went_none reply learn code (at a callers h) space units

  -- steps by themselves
  pub inside_ran : (old : Here) (space : S) (n : ℕ) (new : Here) (space' : S) (units : ℕ) → RanInside (metered reply) (spending learn) f base old (with_units space units) n new (with_units space' units)
      → WentInside reply learn f base old space units new space' units
  inside_ran old space n new space' units ran = λ code a callers over. record {
    steps = n;
    goes = ran.goes code a callers over;
    falls = λ plans left sound here.
        let there = ran.falls code plans a callers left over sound here in
        (there.0, there.2, inr (refl, omega (arith, there.1)));
  }

  pub inside_then : {old mid new : Here} {space here later : S} {a b c : ℕ} → WentInside reply learn f base old space a mid here b → WentInside reply learn f base mid here b new later c → WentInside reply learn f base old space a new later c
  inside_then went more = λ code a callers over. went_then reply learn code (went code a callers over) (more code a callers over)

  -- there is room behind it where there is room for as many cells as instructions
  pub inside_room : {old mid : Here} {space here : S} {a b : ℕ} (room room' : ℕ) → WentInside reply learn f base old space a mid here b → HasRoom f base old room → length f.body ≤ room' → HasRoom f base mid room'
  inside_room {mid = mid} room room' went has enough =
      let there = (went has.0 has.2 [] has.4).falls has.1 has.3 has.5 has.6 in
      fits_room has.0 has.1 f base has.2 [] mid there.0 room' has.4 has.5 there.1 enough

  pub inside_pauses : {old mid : Here} {space here : S} {a b : ℕ} (pause : Pause) (new : Here) (later : S) (c : ℕ) → WentInside reply learn f base old space a mid here b → b ≤ a → PausesInside reply learn f base mid here b pause new later c → PausesInside reply learn f base old space a pause new later c
  inside_pauses pauses.At new later c went under more = (inside_then went more.0, omega (arith, more.1), more.2)
  inside_pauses pauses.Entered new later c went under more = (inside_then went more.0, omega (arith, more.1))
  inside_pauses {old} {mid} (pauses.Stopped stop line) new later c went under more = λ code a callers over.
      let one = went code a callers over in
      let stopped = more code a callers over in (
        stopped.0,
        one.steps + stopped.1,
        on_stops (metered reply) (spending learn) code (at a callers old) (at a callers mid) one.steps stopped.1 new.mode stop line one.goes stopped.2,
      )

  module _ (i : Instr) (mode : Mode) (place : ℕ) (own : List ℕ) (there : slice_get f.body place ≡ Some i) (is : i.op ≡ ops.Turn) (space : S) where
    abbrev next : Activation → List Caller → State
    next a callers = at a callers (here mode (place + 1) own)

    turn_step : (code : Code) (a : Activation) (callers : List Caller) → IsOver code f base a → step_of code (at a callers (here mode place own)) ≡ Notifies mode Turn i.line (next a callers)
    turn_step code a callers over =
        act_at code f i Turning (record a { mode = mode }) callers place own over.0 there (ap role_of is)
        ∙ ap (λ (o : Op). act code (record a { mode = mode }) callers i.line place Turning o own) is

    -- a turn with a unit
    pub inside_turn : (units : ℕ) → 0 < units → WentInside reply learn f base (here mode place own) space units (here mode (place + 1) own) space (units - 1)
    inside_turn units some = λ code a callers over.
        let from : State = at a callers (here mode place own) in
        let step = turn_step code a callers over in
        record {
          steps = 1;
          goes =
              along_map (metered reply) (spending learn) (λ w tape later. ask_in w mode Turn i.line tape ≡ Goes 0 later) (ComesOn code from 1 (next a callers))
              (λ w tape later said n. one_more code from w n tape (Notifies mode Turn i.line (next a callers)) step ∙ ap (λ o. then_do o (λ r t. exec w code n (next a callers) t)) said)
              (along_says (metered reply) (spending learn) (with_units space units) mode Turn i.line refl 0 (within_some units (Says 0) some));
          falls = λ plans left sound here.
              let on = leads_at code plans from left (Notifies mode Turn i.line (next a callers)) sound here step in
              (on.0, on.1, inl (omega arith));
        }

    -- and with none
    pub turn_stops : (units : ℕ) (stop : Stop) → units ≡ 0 → stop ≡ stops.Rule Units → StopsInside (metered reply) (spending learn) f base (here mode place own) (with_units space units) stop mode i.line
    turn_stops units stop none is_units = λ code a callers over.
        let from : State = at a callers (here mode place own) in
        let refused = along_refused (metered reply) (spending learn) (with_units space units) mode Turn i.line refl stop (rw none is_units) in (
          refused.0,
          0,
          along_map (metered reply) (spending learn) (λ w tape later. ask_in w mode Turn i.line tape ≡ stops_in w mode stop i.line later) (ComesToStop code from 0 mode stop i.line)
              (λ w tape later stopped n.
              none_more code from w n tape (Notifies mode Turn i.line (next a callers)) (turn_step code a callers over)
              ∙ ap (λ o. then_do o (λ r t. exec w code n (next a callers) t)) stopped
              ∙ stops_then w mode stop i.line later (λ r t. exec w code n (next a callers) t))
              refused.1,
        )
