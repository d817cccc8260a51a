-- Steps in a row of the whole machine, up to an event.
use Rattle.std.proofs.Common.{◌≡◌, ℕ, suc, ◌+◌, ◌≤◌, List, [], ◌∷◌, length, Some, slice_get, refl, ◌∙◌, subst, arith, inl, inr}
use Rattle.css_semantics.specs.Dialogue.{Action, Reply, Tape, World}
use Rattle.css_semantics.specs.Units.{with_units, metered, spending}
use Rattle.css_vm.specs.declared.code.MarkKind.TheVariants as marks
use Rattle.css_vm.specs.declared.machine.Event.{Event}
use Rattle.css_vm.specs.declared.machine.Event.TheVariants as events
use Rattle.css_vm.specs.declared.step.Pause.{Pause}
use Rattle.css_vm.specs.declared.step.Pause.TheVariants as pauses
use Rattle.css_vm.specs.declared.rounds.Round.{Round}
use Rattle.css_vm.specs.declared.rounds.Round.TheVariants as rounds
use Rattle.css_vm.specs.Code.{Routine, Code}
use Rattle.css_vm.specs.Machine.{State, Begin, At, Caller, exec, answered}
use Rattle.css_vm.specs.Soundness.{Spot, IsSoundBody, IsSound, IsSpot, IsAt, Fits}
use Rattle.css_vm.specs.Events.{IsLower, IsStacked, Does, Falls, Leaves}
use Rattle.css_vm.specs.Stacks.{running}
use Rattle.css_vm.specs.States.{depth}
use Rattle.css_vm.proofs.Requests.{along_map, along_then}
use Rattle.css_vm.proofs.Steps.{on_none, on_then}
use Rattle.css_vm.specs.Steps.{IsPlaced, IsNoHigher, ComesOn, ComesToStop, RanInside, Pauses, Went, Comes, ComesToPause, ComesRound}

-- ---- the plan of the function that runs

-- the plan of a function, at a place of it
pub plan_at : (code : Code) (plans : List (List Spot)) (f : Routine) (function place height rank : ℕ) → IsSound code plans → slice_get code.functions function ≡ Some f → IsSpot code plans function place height rank
    → (plan : List Spot) × (slice_get plans function ≡ Some plan) × IsSoundBody code f plan × (slice_get plan place ≡ Some (record { height = height; rank = rank }))
plan_at code plans f function place height rank sound is spot =
    let each = sound.each function f is in
    let same : spot.1 ≡ each.0 = cc (spot.3, each.1) in
    (each.0, each.1, each.2, subst (λ (plan : List Spot). slice_get plan place ≡ Some (record { height = height; rank = rank })) same spot.4)

pub placed_at : (code : Code) (f : Routine) (function base place : ℕ) (callers : List Caller) (stack : List ℕ) → Fits code (At (running function base) callers place stack) → slice_get code.functions function ≡ Some f → IsPlaced f place (length stack)
placed_at code f function base place callers stack fits is =
    let at = fits.2.1 in
    let plan = plan_at code fits.0 f function place (length stack) at.0 fits.1 is at.2 in
    (code, plan.0, at.0, plan.2, plan.3)

-- ---- parts of a run

-- what the machine does from where its run has come to
does_later : (w : World) (code : Code) (old mid new : State) (tape here later : Tape) (steps : ℕ) (e : Event) → ((n : ℕ) → exec w code (steps + n) old tape ≡ exec w code n mid here) → Does w code mid e new here later → Does w code old e new tape later
does_later w code old mid new tape here later steps (events.Out bytes) same does = (
  steps + does.0,
  does.1,
  λ n.
      let more : steps + does.0 + suc n ≡ steps + (does.0 + suc n) = omega arith in
      rw more (same (does.0 + suc n) ∙ does.2 n),
)
does_later w code old mid new tape here later steps (events.Submit s) same does = (
  steps + does.0,
  does.1,
  does.2,
  does.3,
  does.4,
  λ n.
      let more : steps + does.0 + suc n ≡ steps + (does.0 + suc n) = omega arith in
      rw more (same (does.0 + suc n) ∙ does.5 n),
)
does_later w code old mid new tape here later steps (events.Mark marks.Start line) same does = (
  steps + does.0,
  λ n.
      let more : steps + does.0 + suc n ≡ steps + (does.0 + suc n) = omega arith in
      rw more (same (does.0 + suc n) ∙ does.1 n),
)
does_later w code old mid new tape here later steps (events.Mark marks.Finish line) same does = (
  steps + does.0,
  λ n.
      let more : steps + does.0 + suc n ≡ steps + (does.0 + suc n) = omega arith in
      rw more (same (does.0 + suc n) ∙ does.1 n),
)
does_later w code old mid new tape here later steps (events.Mark marks.Barrier line) same does = (
  steps + does.0,
  λ n.
      let more : steps + does.0 + suc n ≡ steps + (does.0 + suc n) = omega arith in
      rw more (same (does.0 + suc n) ∙ does.1 n),
)
does_later w code old mid new tape here later steps (events.Mark marks.Started line) same does = (
  steps + does.0,
  λ n.
      let more : steps + does.0 + suc n ≡ steps + (does.0 + suc n) = omega arith in
      rw more (same (does.0 + suc n) ∙ does.1 n),
)
does_later w code old mid new tape here later steps (events.Ended value line) same does = (
  steps + does.0,
  λ n.
      let more : steps + does.0 + suc n ≡ steps + (does.0 + suc n) = omega arith in
      rw more (same (does.0 + suc n) ∙ does.1 n),
)
does_later w code old mid new tape here later steps (events.Stopped stop line) same does = (
  steps + does.0,
  λ n.
      let more : steps + does.0 + suc n ≡ steps + (does.0 + suc n) = omega arith in
      rw more (same (does.0 + suc n) ∙ does.1 n),
)

no_higher : (units left : ℕ) → IsNoHigher units left units left
no_higher units left = inr (refl, omega arith)

-- neither rises over two parts
no_higher_then : (a x b y c z : ℕ) → IsNoHigher b y a x → IsNoHigher c z b y → IsNoHigher c z a x
no_higher_then a x b y c z (inl fewer) (inl more) = inl (omega arith)
no_higher_then a x b y c z (inl fewer) (inr more) = inl (omega (arith, more.0))
no_higher_then a x b y c z (inr kept) (inl more) = inl (omega (arith, kept.0))
no_higher_then a x b y c z (inr kept) (inr more) = inr (more.0 ∙ kept.0, omega (arith, kept.1, more.1))

-- what falls in a part falls over both
lower_then : (a x b y c z : ℕ) → IsNoHigher b y a x → IsLower c z b y → IsLower c z a x
lower_then a x b y c z (inl fewer) (inl more) = inl (omega arith)
lower_then a x b y c z (inl fewer) (inr more) = inl (omega (arith, more.0))
lower_then a x b y c z (inr kept) (inl more) = inl (omega (arith, kept.0))
lower_then a x b y c z (inr kept) (inr more) = inr (more.0 ∙ kept.0, omega (arith, kept.1, more.1))

module _ {S : Type 0} (reply : S → Action → Reply) (learn : S → Action → S) (code : Code) where
  pub went_none : (s : State) (space : S) (units : ℕ) → Went reply learn code s space units s space units
  went_none s space units = record {
    steps = 0;
    goes = on_none (metered reply) (spending learn) code s (with_units space units);
    falls = λ plans left sound here. (left, here, no_higher units left);
  }

  pub went_then : {old mid new : State} {space here later : S} {a b c : ℕ} → Went reply learn code old space a mid here b → Went reply learn code mid here b new later c → Went reply learn code old space a new later c
  went_then {old} {mid} {new} {a = a} {b = b} {c = c} went more = record {
    steps = went.steps + more.steps;
    goes = on_then (metered reply) (spending learn) code old mid new went.steps more.steps went.goes more.goes;
    falls = λ plans left sound at.
        let one = went.falls plans left sound at in
        let two = more.falls plans one.0 sound one.1 in
        (two.0, two.1, no_higher_then a left b one.0 c two.0 one.2 two.2);
  }

  -- the machine still fits
  pub went_fits : {old new : State} {space space' : S} {units units' : ℕ} → Went reply learn code old space units new space' units' → Fits code old → Fits code new
  went_fits went fits =
      let here = went.falls fits.0 fits.2.0 fits.1 fits.2.1 in
      (fits.0, fits.1, (here.0, here.1))

  -- steps inside a function
  pub went_inside : (f : Routine) (function base place place' n units : ℕ) (callers : List Caller) (stack stack' : List ℕ) (space space' : S) → slice_get code.functions function ≡ Some f
      → RanInside (metered reply) (spending learn) f base place stack (with_units space units) n place' stack' (with_units space' units)
      → Went reply learn code (At (running function base) callers place stack) space units (At (running function base) callers place' stack') space' units
  went_inside f function base place place' n units callers stack stack' space space' is ran = record {
    steps = n;
    goes = ran.goes code function callers is;
    falls = λ plans left sound at.
        let plan = plan_at code plans f function place (length stack) at.0 sound is at.2 in
        let there = ran.falls code plan.0 at.0 plan.2 plan.3 in (
          there.0 + at.1,
          (there.0, at.1, (f, plan.0, is, plan.1, there.2), at.3, refl),
          inr (refl, omega (arith, there.1, at.4)),
        );
  }

  module _ (place : S → ℕ) where
    pub went_comes : {old mid : State} {space here : S} {units left : ℕ} (e : Event) (new : State) (later : S) (units' : ℕ) → Went reply learn code old space units mid here left → Comes reply learn place code mid here left e new later units' → Comes reply learn place code old space units e new later units'
    went_comes {old} {mid} {units = units} {left = left} e new later units' went comes = (
      record {
        end = comes.0.end;
        is_left = comes.0.is_left;
        does = along_then (metered reply) (spending learn) (ComesOn code old went.steps mid) (λ w tape later. Does w code mid e new tape later) (λ w tape later. Does w code old e new tape later)
            (λ w tape here there one two. does_later w code old mid new tape here there went.steps e one two) went.goes comes.0.does;
      },
      leaves_then e comes.1,
    )
      where
        falls_then : Falls code mid left new units' → Falls code old units new units'
        falls_then falls = λ plans steps sound at.
            let one = went.falls plans steps sound at in
            let two = falls plans one.0 sound one.1 in
            (two.0, two.1, lower_then units steps left one.0 units' two.0 one.2 two.2)

        leaves_then : (e : Event) → Leaves code mid left e new units' (place later) → Leaves code old units e new units' (place later)
        leaves_then (events.Out bytes) leaves = (leaves.0, falls_then leaves.1, leaves.2)
        leaves_then (events.Submit s) leaves = (leaves.0, falls_then leaves.1, leaves.2, leaves.3)
        leaves_then (events.Mark kind line) leaves = (leaves.0, falls_then leaves.1, leaves.2)
        leaves_then (events.Ended value line) leaves = leaves
        leaves_then (events.Stopped stop line) leaves = tt

    -- a round behind others
    pub went_round : {old mid : State} {space here : S} {units : ℕ} (r : Round) (new : State) (later : S) (units' : ℕ) → Went reply learn code old space units mid here units → (depth mid ≤ depth old) → ComesRound reply learn place code mid here units r new later units' → ComesRound reply learn place code old space units r new later units'
    went_round rounds.Enters new later units' went under round = (went_then went round.0, round.1, round.2)
    went_round rounds.Returns new later units' went under round = (went_then went round.0, round.1, round.2, omega (arith, round.3))
    went_round (rounds.Makes e) new later units' went under round = went_comes e new later units' went round

    -- the pause that steps inside a function come to
    pub comes_to_pause : (f : Routine) (function base at : ℕ) (callers : List Caller) (stack : List ℕ) (space : S) (units : ℕ) (pause : Pause) (at' : ℕ) (stack' : List ℕ) (space' : S) → slice_get code.functions function ≡ Some f
        → Pauses (metered reply) (spending learn) f base at stack (with_units space units) pause at' stack' (with_units space' units) → place space' ≡ place space → IsStacked code (place space) (At (running function base) callers at stack)
        → ComesToPause reply learn place code (At (running function base) callers at stack) space units pause (At (running function base) callers at' stack') space'
    comes_to_pause f function base at callers stack space units (pauses.At op line) at' stack' space' is paused same stacked = (
      went_inside f function base at at' paused.0 units callers stack stack' space space' is paused.1,
      rw same stacked,
      refl,
      (f, is, paused.2, refl),
      paused.3,
    )
    comes_to_pause f function base at callers stack space units (pauses.Stopped stop line) at' stack' space' is paused same stacked =
        let stopped = paused code function callers is in (
          record {
            end = stopped.0;
            is_left = tt;
            does = along_map (metered reply) (spending learn) (ComesToStop code (At (running function base) callers at stack) stopped.1 stop line)
                (λ w tape later. Does w code (At (running function base) callers at stack) (events.Stopped stop line) (At (running function base) callers at' stack') tape later)
                (λ w tape later stops. (stopped.1, stops)) stopped.2;
          },
          tt,
        )

-- an answer leaves the machine where it is in its plans
pub answered_at : (code : Code) (plans : List (List Spot)) (left r : ℕ) (s : State) → IsAt code plans left s → IsAt code plans left (answered r s)
answered_at code plans left r (Begin function arguments line) at = at
answered_at code plans left r (At a callers place []) at = at
answered_at code plans left r (At a callers place (x ∷ rest)) at = at

-- a machine that is owed an answer fits with any
pub answered_fits : (code : Code) (old new : State) (units units' r : ℕ) → Falls code old units new units' → Fits code old → Fits code (answered r new)
answered_fits code old new units units' r falls fits =
    let here = falls fits.0 fits.2.0 fits.1 fits.2.1 in
    (fits.0, fits.1, (here.0, answered_at code fits.0 here.0 r new here.1))

-- a machine whose steps or units have fallen fits
pub falls_fits : (code : Code) (old new : State) (units units' : ℕ) → Falls code old units new units' → Fits code old → Fits code new
falls_fits code old new units units' falls fits =
    let here = falls fits.0 fits.2.0 fits.1 fits.2.1 in
    (fits.0, fits.1, (here.0, here.1))

-- an answer leaves the frames as they are
pub answered_stacked : (code : Code) (place r : ℕ) (s : State) → IsStacked code place s → IsStacked code place (answered r s)
answered_stacked code place r (Begin function arguments line) stacked = stacked
answered_stacked code place r (At a callers at []) stacked = stacked
answered_stacked code place r (At a callers at (x ∷ rest)) stacked = stacked
