-- What a step does at an instruction inside a function, whatever the code and the callers.
use Rattle.std.proofs.Common.{◌≡◌, ℕ, suc, ◌+◌, ◌≤◌, List, ◌∷◌, Some, slice_get, nat_eq, if◌then◌else◌, IsTrue, refl, ◌∙◌, ap, subst, arith, zero-add}
use Rattle.css_base.specs.declared.ending.Stop.{Stop}
use Rattle.css_base.specs.declared.ending.Stop.TheVariants as stops
use Rattle.css_semantics.specs.Dialogue.{Action, Load, Store, Reply, Tape, World, Goes, Mode, then_do, ask_in}
use Rattle.css_semantics.specs.Worlds.{is_of_machine}
use Rattle.css_semantics.specs.Units.{with_units, metered, spending}
use Rattle.css_isa.specs.declared.code.Instr.{Instr}
use Rattle.css_isa.specs.declared.code.Mark.{Mark}
use Rattle.css_isa.specs.declared.code.Op.{Op}
use Rattle.css_isa.specs.declared.code.Op.TheVariants as ops
use Rattle.css_isa.specs.Cells.{cell_as}
use Rattle.css_isa.specs.Code.{Routine, Code}
use Rattle.css_isa.specs.Effects.{Effect, Gives, Asks, Tells, Faults, Lacks, effect}
use Rattle.css_isa.specs.Roles.{Role, Straight, Turning, Outward, Telling, Awaiting, Changing, Testing, Jumping, Branching, Calling, Submitting, Returning, role_of}
use Rattle.css_isa.specs.Spaces.{IsStackPlace}
use Rattle.css_isa.specs.Steps.{Activation, Caller, State, At, Step, Moves, Requests, Notifies, Fails, pushed, on_function, worked, act, at_instr, step_of, done}
use Rattle.css_isa.specs.Machine.{exec}
use Rattle.css_isa.specs.Soundness.{Plan, IsSound, IsAt}
use Rattle.css_isa.specs.Fitting.{IsNearer, IsOnward, LeadsOnward}
use Rattle.css_isa.proofs.Onward.{step_onward}
use Rattle.css_machine.specs.declared.operations.Flow.{Flow}
use Rattle.css_machine.specs.declared.operations.Flow.TheVariants as flows
use Rattle.css_machine.specs.Events.{Along, stops_in}
use Rattle.css_machine.specs.Steps.{IsAccess, Works, Breaks, Passes, StepsTo, StopsAt, Flows, Here, here, at, ComesOn, ComesToStop, IsOver, RanInside, StopsInside}
use Rattle.css_machine.proofs.Requests.{stops_then, along_map, along_none, along_says, along_refused}

-- ---- what is asked of a memory

module _ {S : Type 0} (reply : S → Action → Reply) (learn : S → Action → S) (space : S) (units : ℕ) where
  access_reply : (action : Action) → IsAccess action → metered reply (with_units space units) action ≡ reply space action
  access_reply (Load address width) h = refl
  access_reply (Store address bytes) h = refl
  access_reply _ h = absurd h

  access_learn : (action : Action) → IsAccess action → spending learn (with_units space units) action ≡ with_units (learn space action) units
  access_learn (Load address width) h = refl
  access_learn (Store address bytes) h = refl
  access_learn _ h = absurd h

access_machine : (action : Action) → IsAccess action → IsTrue (is_of_machine action)
access_machine (Load address width) h = refl
access_machine (Store address bytes) h = refl
access_machine _ h = absurd h

access_onward : (code : Code) (plans : List Plan) (action : Action) (steps : ℕ) (s : State) → IsAccess action → IsOnward code plans action steps s → IsNearer code plans steps s
access_onward code plans (Load address width) steps s h onward = onward
access_onward code plans (Store address bytes) steps s h onward = onward
access_onward code plans _ steps s h onward = absurd h

access_place : {S : Type 0} (reply : S → Action → Reply) (learn : S → Action → S) (place : S → ℕ) → IsStackPlace reply learn place → (space : S) (action : Action) → IsAccess action → place (learn space action) ≡ place space
access_place reply learn place moves space (Load address width) h = moves.loads space address width
access_place reply learn place moves space (Store address bytes) h = moves.stores space address bytes
access_place reply learn place moves space _ h = absurd h

-- ---- a step in a world

module _ (code : Code) (s : State) (w : World) (n : ℕ) (tape : Tape) where
  pub by_step : (st : Step) → step_of code s ≡ st → exec w code (suc n) s tape ≡ done w (exec w code n) Goes st tape
  by_step st is = ap (λ (st : Step). done w (exec w code n) Goes st tape) is

  pub one_more : (st : Step) → step_of code s ≡ st → exec w code (1 + n) s tape ≡ done w (exec w code n) Goes st tape
  one_more st is =
      let one : 1 + n ≡ suc n = omega arith in
      rw one (by_step st is)

  pub none_more : (st : Step) → step_of code s ≡ st → exec w code (0 + suc n) s tape ≡ done w (exec w code n) Goes st tape
  none_more st is = rw zero-add (by_step st is)

-- ---- effects

module _ {S : Type 0} (reply : S → Action → Reply) (learn : S → Action → S) (code : Code) (a : Activation) (callers : List Caller) (line place : ℕ) (own : List ℕ) (space : S) where
  abbrev from : State
  from = At a callers place own

  abbrev to : List ℕ → State
  to own' = At a callers (place + 1) own'

  -- an effect that goes on
  works_on : (e : Effect) → step_of code from ≡ worked code a callers line place e → (own' : List ℕ) (space' : S) (units : ℕ) → Works reply learn e space own' space'
      → Along (metered reply) (spending learn) (with_units space units) (with_units space' units) (ComesOn code from 1 (to own'))
  works_on (Gives cells) is own' space' units works =
      rw (works.0, works.1)
      (along_none (metered reply) (spending learn) (with_units space units) (ComesOn code from 1 (to cells)) (λ w tape n. one_more code from w n tape (Moves (to cells)) is))
  works_on (Asks action t cells) is own' space' units works =
      let access = works.0 in
      let r = works.1.0 in
      let next = to (cell_as t r ∷ cells) in
      rw (works.1.2, works.1.3) (subst (λ m. Along (metered reply) (spending learn) (with_units space units) m (ComesOn code from 1 next)) (access_learn reply learn space units action access)
      (along_map (metered reply) (spending learn) (λ w tape later. ask_in w a.mode action line tape ≡ Goes r later) (ComesOn code from 1 next)
      (λ w tape later said n. one_more code from w n tape (Requests a.mode action line t (to cells)) is ∙ ap (λ o. then_do o (λ r t'. exec w code n (pushed (cell_as t r) (to cells)) t')) said)
      (along_says (metered reply) (spending learn) (with_units space units) a.mode action line (access_machine action access) r (access_reply reply learn space units action access ∙ works.1.1))))
  works_on (Tells action cells) is own' space' units works =
      let access = works.0 in
      let r = works.1.0 in
      rw (works.1.2, works.1.3) (subst (λ m. Along (metered reply) (spending learn) (with_units space units) m (ComesOn code from 1 (to cells))) (access_learn reply learn space units action access)
      (along_map (metered reply) (spending learn) (λ w tape later. ask_in w a.mode action line tape ≡ Goes r later) (ComesOn code from 1 (to cells))
      (λ w tape later said n. one_more code from w n tape (Notifies a.mode action line (to cells)) is ∙ ap (λ o. then_do o (λ r t'. exec w code n (to cells) t')) said)
      (along_says (metered reply) (spending learn) (with_units space units) a.mode action line (access_machine action access) r (access_reply reply learn space units action access ∙ works.1.1))))
  works_on (Faults kind) is own' space' units works = absurd works
  works_on Lacks is own' space' units works = absurd works

  works_falls : (plans : List Plan) (left : ℕ) (e : Effect) → LeadsOnward code plans left (worked code a callers line place e) → (own' : List ℕ) (space' : S) → Works reply learn e space own' space'
      → (next : ℕ) × (next + 1 ≤ left) × IsAt code plans next (to own')
  works_falls plans left (Gives cells) leads own' space' works = rw works.0 (leads.0, omega (arith, leads.1), leads.2)
  works_falls plans left (Asks action t cells) leads own' space' works =
      let r = works.1.0 in
      let near = access_onward code plans action left (to (cell_as t r ∷ cells)) works.0 (leads r) in
      rw works.1.2 (near.0, omega (arith, near.1), near.2)
  works_falls plans left (Tells action cells) leads own' space' works =
      let near = access_onward code plans action left (to cells) works.0 leads in
      rw works.1.2 (near.0, omega (arith, near.1), near.2)
  works_falls plans left (Faults kind) leads own' space' works = absurd works
  works_falls plans left Lacks leads own' space' works = absurd works

  -- an effect that stops
  breaks_off : (e : Effect) → step_of code from ≡ worked code a callers line place e → (stop : Stop) (units : ℕ) → Breaks reply learn e space stop
      → (end : _) × Along (metered reply) (spending learn) (with_units space units) end (ComesToStop code from 0 a.mode stop line)
  breaks_off (Gives cells) is stop units breaks = absurd breaks
  breaks_off (Asks action t cells) is stop units breaks =
      let refused = along_refused (metered reply) (spending learn) (with_units space units) a.mode action line (access_machine action breaks.0) stop (rw (access_reply reply learn space units action breaks.0) breaks.1) in (
        refused.0,
        along_map (metered reply) (spending learn) (λ w tape later. ask_in w a.mode action line tape ≡ stops_in w a.mode stop line later) (ComesToStop code from 0 a.mode stop line)
            (λ w tape later stopped n.
            none_more code from w n tape (Requests a.mode action line t (to cells)) is
            ∙ ap (λ o. then_do o (λ r t'. exec w code n (pushed (cell_as t r) (to cells)) t')) stopped
            ∙ stops_then w a.mode stop line later (λ r t'. exec w code n (pushed (cell_as t r) (to cells)) t'))
            refused.1,
      )
  breaks_off (Tells action cells) is stop units breaks =
      let refused = along_refused (metered reply) (spending learn) (with_units space units) a.mode action line (access_machine action breaks.0) stop (rw (access_reply reply learn space units action breaks.0) breaks.1) in (
        refused.0,
        along_map (metered reply) (spending learn) (λ w tape later. ask_in w a.mode action line tape ≡ stops_in w a.mode stop line later) (ComesToStop code from 0 a.mode stop line)
            (λ w tape later stopped n.
            none_more code from w n tape (Notifies a.mode action line (to cells)) is
            ∙ ap (λ o. then_do o (λ r t'. exec w code n (to cells) t')) stopped
            ∙ stops_then w a.mode stop line later (λ r t'. exec w code n (to cells) t'))
            refused.1,
      )
  breaks_off (Faults kind) is stop units breaks = (
    with_units space units,
    rw breaks (along_none (metered reply) (spending learn) (with_units space units) (ComesToStop code from 0 a.mode (stops.Fault kind) line) (λ w tape n. none_more code from w n tape (Fails a.mode kind line) is)),
  )
  breaks_off Lacks is stop units breaks = absurd breaks

-- ---- the step table at a place of a function

pub act_at : (code : Code) (f : Routine) (i : Instr) (role : Role) (a : Activation) (callers : List Caller) (place : ℕ) (own : List ℕ) → slice_get code.functions a.function ≡ Some f → slice_get f.body place ≡ Some i → role_of i.op ≡ role
    → step_of code (At a callers place own) ≡ act code a callers i.line place role i.op own
act_at code f i role a callers place own is there role_is =
    ap (λ o. on_function o (λ g. at_instr code (slice_get g.body place) a callers place own)) is
    ∙ ap (λ o. at_instr code o a callers place own) there
    ∙ ap (λ r. act code a callers i.line place r i.op own) role_is

-- what a sound machine does there leads on
pub leads_at : (code : Code) (plans : List Plan) (s : State) (left : ℕ) (st : Step) → IsSound code plans → IsAt code plans left s → step_of code s ≡ st → LeadsOnward code plans left st
leads_at code plans s left st sound here is = subst (LeadsOnward code plans left) is (step_onward code plans sound s left here)

module _ {S : Type 0} (reply : S → Action → Reply) (learn : S → Action → S) (f : Routine) (base : ℕ) where
  -- a step by itself
  ran_moves : (old new : Here) (space : S) → ((code : Code) (a : Activation) (callers : List Caller) → IsOver code f base a → step_of code (at a callers old) ≡ Moves (at a callers new))
      → RanInside reply learn f base old space 1 new space
  ran_moves old new space moves = record {
    goes = λ code a callers over.
        along_none reply learn space (ComesOn code (at a callers old) 1 (at a callers new))
        (λ w tape n. one_more code (at a callers old) w n tape (Moves (at a callers new)) (moves code a callers over));
    falls = λ code plans a callers left over sound here.
        let near = leads_at code plans (at a callers old) left (Moves (at a callers new)) sound here (moves code a callers over) in
        (near.0, omega (arith, near.1), near.2);
  }

module _ {S : Type 0} (reply : S → Action → Reply) (learn : S → Action → S) (f : Routine) (base : ℕ) where
  module _ (i : Instr) (mode : Mode) (place : ℕ) (own : List ℕ) (there : slice_get f.body place ≡ Some i) (space : S) (units : ℕ) where
    ran_works : (needed taken given : ℕ) (own' : List ℕ) (space' : S) → role_of i.op ≡ Straight needed taken given → Works reply learn (effect base i.op own) space own' space'
        → RanInside (metered reply) (spending learn) f base (here mode place own) (with_units space units) 1 (here mode (place + 1) own') (with_units space' units)
    ran_works needed taken given own' space' role_is works = record {
      goes = λ code a callers over.
          let b : Activation = record a { mode = mode } in
          works_on reply learn code b callers i.line place own space (effect a.base i.op own) (act_at code f i (Straight needed taken given) b callers place own over.0 there role_is) own' space' units (rw over.1 works);
      falls = λ code plans a callers left over sound here.
          let b : Activation = record a { mode = mode } in
          works_falls reply learn code b callers i.line place own space plans left (effect a.base i.op own)
          (leads_at code plans (At b callers place own) left _ sound here (act_at code f i (Straight needed taken given) b callers place own over.0 there role_is)) own' space' (rw over.1 works);
    }

    ran_as : (role : Role) (mode' : Mode) (place' : ℕ) (own' : List ℕ) (space' : S) → role_of i.op ≡ role → StepsTo reply learn role i.op base mode place own space mode' place' own' space'
        → RanInside (metered reply) (spending learn) f base (here mode place own) (with_units space units) 1 (here mode' place' own') (with_units space' units)
    ran_as (Straight needed taken given) mode' place' own' space' role_is steps = rw (steps.0, steps.1) (ran_works needed taken given own' space' role_is steps.2)
    ran_as (Changing other) mode' place' own' space' role_is steps =
        rw (steps.0, steps.1, steps.2, steps.3)
        (ran_moves (metered reply) (spending learn) f base (here mode place own) (here other (place + 1) own) (with_units space units)
        (λ code a callers over. act_at code f i (Changing other) (record a { mode = mode }) callers place own over.0 there role_is))
    ran_as (Jumping to) mode' place' own' space' role_is steps =
        rw (steps.0, steps.1, steps.2, steps.3)
        (ran_moves (metered reply) (spending learn) f base (here mode place own) (here mode to own) (with_units space units)
        (λ code a callers over. act_at code f i (Jumping to) (record a { mode = mode }) callers place own over.0 there role_is))
    ran_as (Branching to) mode' place' own' space' role_is steps =
        let cell = steps.1.0 in
        rw (steps.0, steps.1.1, steps.1.2, steps.1.3)
        (ran_moves (metered reply) (spending learn) f base (here mode place (cell ∷ own')) (here mode (if nat_eq cell 0 then to else place + 1) own') (with_units space units)
        (λ code a callers over. act_at code f i (Branching to) (record a { mode = mode }) callers place (cell ∷ own') over.0 there role_is))
    ran_as Turning mode' place' own' space' role_is steps = absurd steps
    ran_as (Outward taken given) mode' place' own' space' role_is steps = absurd steps
    ran_as Telling mode' place' own' space' role_is steps = absurd steps
    ran_as Awaiting mode' place' own' space' role_is steps = absurd steps
    ran_as Testing mode' place' own' space' role_is steps = absurd steps
    ran_as (Calling k) mode' place' own' space' role_is steps = absurd steps
    ran_as (Submitting k) mode' place' own' space' role_is steps = absurd steps
    ran_as Returning mode' place' own' space' role_is steps = absurd steps

    -- one step at an instruction
    pub ran_step : (mode' : Mode) (place' : ℕ) (own' : List ℕ) (space' : S) → StepsTo reply learn (role_of i.op) i.op base mode place own space mode' place' own' space'
        → RanInside (metered reply) (spending learn) f base (here mode place own) (with_units space units) 1 (here mode' place' own') (with_units space' units)
    ran_step mode' place' own' space' steps = ran_as (role_of i.op) mode' place' own' space' refl steps

    stops_as : (role : Role) (stop : Stop) → role_of i.op ≡ role → StopsAt reply learn role i.op base own space stop
        → StopsInside (metered reply) (spending learn) f base (here mode place own) (with_units space units) stop mode i.line
    stops_as (Straight needed taken given) stop role_is stops = λ code a callers over.
        let b : Activation = record a { mode = mode } in
        let broken = breaks_off reply learn code b callers i.line place own space (effect a.base i.op own) (act_at code f i (Straight needed taken given) b callers place own over.0 there role_is) stop units (rw over.1 stops) in
        (broken.0, 0, broken.1)
    stops_as Turning stop role_is stops = absurd stops
    stops_as (Outward taken given) stop role_is stops = absurd stops
    stops_as Telling stop role_is stops = absurd stops
    stops_as Awaiting stop role_is stops = absurd stops
    stops_as (Changing other) stop role_is stops = absurd stops
    stops_as Testing stop role_is stops = absurd stops
    stops_as (Jumping to) stop role_is stops = absurd stops
    stops_as (Branching to) stop role_is stops = absurd stops
    stops_as (Calling k) stop role_is stops = absurd stops
    stops_as (Submitting k) stop role_is stops = absurd stops
    stops_as Returning stop role_is stops = absurd stops

    -- a stop at an instruction
    pub stops_step : (stop : Stop) → StopsAt reply learn (role_of i.op) i.op base own space stop
        → StopsInside (metered reply) (spending learn) f base (here mode place own) (with_units space units) stop mode i.line
    stops_step stop stops = stops_as (role_of i.op) stop refl stops

-- ---- marks

-- a mark that is passed is done
pub pass_flows : {S : Type 0} (reply : S → Action → Reply) (learn : S → Action → S) (mark : Mark) (base : ℕ) (mode : Mode) (place : ℕ) (own : List ℕ) (space : S) (flow : Flow) (mode' : Mode) (place' : ℕ)
    → Passes mark mode place flow mode' place' → Flows reply learn (ops.Mark mark) base mode place own space flow mode' place' own space
pass_flows reply learn mark base mode place own space flows.Goes mode' place' passes = rw passes.0 (refl, passes.1, refl, refl)
pass_flows reply learn mark base mode place own space flows.Turns mode' place' passes = absurd passes
pass_flows reply learn mark base mode place own space flows.Pauses mode' place' passes = (passes.0, passes.1, passes.2, refl, refl)
pass_flows reply learn mark base mode place own space (flows.Stops stop) mode' place' passes = absurd passes

-- ---- the stack place

module _ {S : Type 0} (reply : S → Action → Reply) (learn : S → Action → S) (place_of : S → ℕ) (moves : IsStackPlace reply learn place_of) where
  works_place : (e : Effect) (space : S) (own' : List ℕ) (space' : S) → Works reply learn e space own' space' → place_of space' ≡ place_of space
  works_place (Gives cells) space own' space' works = ap place_of works.1
  works_place (Asks action t cells) space own' space' works = ap place_of works.1.3 ∙ access_place reply learn place_of moves space action works.0
  works_place (Tells action cells) space own' space' works = ap place_of works.1.3 ∙ access_place reply learn place_of moves space action works.0
  works_place (Faults kind) space own' space' works = absurd works
  works_place Lacks space own' space' works = absurd works

  -- no step inside a function moves it
  pub steps_place : (role : Role) (op : Op) (base : ℕ) (mode : Mode) (place : ℕ) (own : List ℕ) (space : S) (mode' : Mode) (place' : ℕ) (own' : List ℕ) (space' : S)
      → StepsTo reply learn role op base mode place own space mode' place' own' space' → place_of space' ≡ place_of space
  steps_place (Straight needed taken given) op base mode place own space mode' place' own' space' steps = works_place (effect base op own) space own' space' steps.2
  steps_place (Changing other) op base mode place own space mode' place' own' space' steps = ap place_of steps.3
  steps_place (Jumping to) op base mode place own space mode' place' own' space' steps = ap place_of steps.3
  steps_place (Branching to) op base mode place own space mode' place' own' space' steps = ap place_of steps.1.3
  steps_place Turning op base mode place own space mode' place' own' space' steps = absurd steps
  steps_place (Outward taken given) op base mode place own space mode' place' own' space' steps = absurd steps
  steps_place Telling op base mode place own space mode' place' own' space' steps = absurd steps
  steps_place Awaiting op base mode place own space mode' place' own' space' steps = absurd steps
  steps_place Testing op base mode place own space mode' place' own' space' steps = absurd steps
  steps_place (Calling k) op base mode place own space mode' place' own' space' steps = absurd steps
  steps_place (Submitting k) op base mode place own space mode' place' own' space' steps = absurd steps
  steps_place Returning op base mode place own space mode' place' own' space' steps = absurd steps
