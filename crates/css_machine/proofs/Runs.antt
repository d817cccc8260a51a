-- Parts of a run of the whole machine, up to an event.
use Rattle.std.proofs.Common.{◌≡◌, ℕ, suc, ◌+◌, ◌≤◌, List, [], ◌∷◌, length, Some, slice_get, refl, ◌∙◌, arith, zero-add, inl, inr}
use Rattle.css_semantics.specs.Dialogue.{Action, Reply, Tape, World}
use Rattle.css_semantics.specs.Units.{with_units, metered, spending}
use Rattle.css_isa.specs.Code.{Routine, Code}
use Rattle.css_isa.specs.Steps.{Caller, State, Begin, At}
use Rattle.css_isa.specs.Machine.{exec, answered}
use Rattle.css_isa.specs.Soundness.{Plan, IsAt, Fits}
use Rattle.css_machine.specs.declared.event.Event.{Event}
use Rattle.css_machine.specs.declared.event.Event.TheVariants as events
use Rattle.css_machine.specs.declared.turns.Pause.{Pause}
use Rattle.css_machine.specs.declared.turns.Pause.TheVariants as pauses
use Rattle.css_machine.specs.declared.rounds.Round.{Round}
use Rattle.css_machine.specs.declared.rounds.Round.TheVariants as rounds
use Rattle.css_machine.specs.Events.{IsLower, IsStacked, GoesOnBehind, Does, Falls, Leaves, IsLeft}
use Rattle.css_machine.specs.States.{running, depth}
use Rattle.css_machine.specs.Steps.{Here, here, at, HasRoom, IsNoHigher, ComesOn, ComesToStop, Went, PausesInside, IsLeftBehind, Makes, Comes, ComesToPause, ComesRound}
use Rattle.css_machine.proofs.Requests.{along_map, along_then, along_none}
use Rattle.css_machine.proofs.Rows.{went_then, fits_room}

-- what falls in a part falls over both
lower_then : (a x b y c z : ℕ) → IsNoHigher b y a x → IsLower c z b y → IsLower c z a x
lower_then a x b y c z (inl fewer) (inl more) = inl (omega arith)
lower_then a x b y c z (inl fewer) (inr more) = inl (omega (arith, more.0))
lower_then a x b y c z (inr kept) (inl more) = inl (omega (arith, kept.0))
lower_then a x b y c z (inr kept) (inr more) = inr (more.0 ∙ kept.0, omega (arith, kept.1, more.1))

-- what the machine does from where its run has come to
does_later : (w : World) (code : Code) (old mid new : State) (tape here later : Tape) (steps : ℕ) (e : Event) → ((n : ℕ) → exec w code (steps + n) old tape ≡ exec w code n mid here) → Does w code mid e new here later → Does w code old e new tape later
does_later w code old mid new tape here later steps e same does = (
  steps + does.0,
  λ n.
      let more : steps + does.0 + suc n ≡ steps + (does.0 + suc n) = omega arith in
      rw more (same (does.0 + suc n) ∙ does.1 n),
)

left_here : {S : Type 0} (e : Event) (space : S) → IsLeft e space space
left_here (events.Out bytes line) space = refl
left_here (events.In line) space = refl
left_here (events.Malloc size line) space = refl
left_here (events.Submit s) space = refl
left_here (events.Mark kind line) space = refl
left_here (events.Ended value line) space = refl
left_here (events.Stopped stop mode line) space = tt

module _ {S : Type 0} (reply : S → Action → Reply) (learn : S → Action → S) (code : Code) where
  -- the machine still fits
  pub went_fits : {old new : State} {space space' : S} {units units' : ℕ} → Went reply learn code old space units new space' units' → Fits code old → Fits code new
  went_fits went fits =
      let here = went.falls fits.0 fits.2.0 fits.1 fits.2.1 in
      (fits.0, fits.1, (here.0, here.1))

  module _ (place : S → ℕ) where
    pub went_comes : {old mid : State} {space here : S} {units left : ℕ} (e : Event) (new : State) (later : S) (units' : ℕ) → Went reply learn code old space units mid here left → Comes reply learn place code mid here left e new later units' → Comes reply learn place code old space units e new later units'
    went_comes {old} {mid} {units = units} {left = left} e new later units' went comes = (
      record {
        end = comes.0.end;
        is_left = comes.0.is_left;
        does = along_then (metered reply) (spending learn) (ComesOn code old went.steps mid) (λ w tape later. Does w code mid e new tape later) (λ w tape later. Does w code old e new tape later)
            (λ w tape here there one two. does_later w code old mid new tape here there went.steps e one two) went.goes comes.0.does;
      },
      leaves_then e comes.1,
    )
      where
        behind_then : GoesOnBehind code mid left new units' (place later) → GoesOnBehind code old units new units' (place later)
        behind_then goes = record {
          falls = λ plans steps sound at.
              let one = went.falls plans steps sound at in
              let two = goes.falls plans one.0 sound one.1 in
              (two.0, two.1, lower_then units steps left one.0 units' two.0 one.2 two.2);
          stacked = goes.stacked;
        }

        leaves_then : (e : Event) → Leaves code mid left e new units' (place later) → Leaves code old units e new units' (place later)
        leaves_then (events.Out bytes line) leaves = (leaves.0, behind_then leaves.1)
        leaves_then (events.In line) leaves = (leaves.0, behind_then leaves.1)
        leaves_then (events.Malloc size line) leaves = (leaves.0, behind_then leaves.1)
        leaves_then (events.Submit s) leaves = (leaves.0, behind_then leaves.1, leaves.2)
        leaves_then (events.Mark kind line) leaves = (leaves.0, behind_then leaves.1)
        leaves_then (events.Ended value line) leaves = leaves
        leaves_then (events.Stopped stop mode line) leaves = tt

    -- a round behind others
    pub went_round : {old mid : State} {space here : S} {units left : ℕ} (r : Round) (new : State) (later : S) (units' : ℕ) → Went reply learn code old space units mid here left → left ≤ units → depth mid ≤ depth old → ComesRound reply learn place code mid here left r new later units' → ComesRound reply learn place code old space units r new later units'
    went_round rounds.Enters new later units' went fewer under round = (went_then reply learn code went round.0, round.1, omega (arith, round.2))
    went_round rounds.Returns new later units' went fewer under round = (went_then reply learn code went round.0, round.1, omega (arith, round.2), omega (arith, round.3))
    went_round (rounds.Makes e) new later units' went fewer under round = went_comes e new later units' went round

    -- the pause that steps inside a function come to
    pub comes_to_pause : (f : Routine) (function base : ℕ) (callers : List Caller) (old : Here) (space : S) (units : ℕ) (pause : Pause) (new : Here) (space' : S) (units' : ℕ) → slice_get code.functions function ≡ Some f
        → PausesInside reply learn f base old space units pause new space' units' → place space' ≡ place space → IsStacked code (place space) (At (running function base old.mode) callers old.place old.own)
        → ComesToPause reply learn place code (At (running function base old.mode) callers old.place old.own) space units pause (At (running function base new.mode) callers new.place new.own) space' units'
    comes_to_pause f function base callers old space units pauses.At new space' units' is paused same stacked = (
      paused.0 code (running function base old.mode) callers (is, refl),
      rw same stacked,
      refl,
      paused.1,
      (paused.2.0.op, paused.2.0.line, (f, is, (paused.2.0, paused.2.1, refl, refl), refl), paused.2.2),
    )
    comes_to_pause f function base callers old space units pauses.Entered new space' units' is paused same stacked = (
      paused.0 code (running function base old.mode) callers (is, refl),
      rw same stacked,
      paused.1,
    )
    comes_to_pause f function base callers old space units (pauses.Stopped stop line) new space' units' is paused same stacked = λ mode mode-is.
        let from = At (running function base old.mode) callers old.place old.own in
        let stopped = paused code (running function base old.mode) callers (is, refl) in (
          record {
            end = stopped.0;
            is_left = tt;
            does = along_map (metered reply) (spending learn) (ComesToStop code from stopped.1 new.mode stop line)
                (λ w tape later. Does w code from (events.Stopped stop mode line) (At (running function base new.mode) callers new.place new.own) tape later)
                (λ w tape later stops. (stopped.1, rw mode-is stops)) stopped.2;
          },
          tt,
        )

    -- a step that is an event
    pub comes_made : (old : State) (space : S) (units : ℕ) (e : Event) (new : State) → Makes code old e new → IsStacked code (place space) old → Comes reply learn place code old space units e new space units
    comes_made old space units e new makes stacked = (
      record {
        end = with_units space units;
        is_left = left_here e (with_units space units);
        does = along_none (metered reply) (spending learn) (with_units space units) (λ w tape later. Does w code old e new tape later) (λ w tape. (0, λ n. rw zero-add (makes.does w n tape)));
      },
      leaves_here e makes.leaves (record {
        falls = λ plans steps sound here.
            let fewer = makes.falls plans steps sound here in
            (fewer.0, fewer.1, inr (refl, fewer.2));
        stacked = makes.stacked (place space) stacked;
      }),
    )
      where
        leaves_here : (e : Event) → IsLeftBehind code e new → GoesOnBehind code old units new units (place space) → Leaves code old units e new units (place space)
        leaves_here (events.Out bytes line) owed goes = (owed, goes)
        leaves_here (events.In line) owed goes = (owed, goes)
        leaves_here (events.Malloc size line) owed goes = (owed, goes)
        leaves_here (events.Submit s) owed goes = (owed.0, goes, owed.1)
        leaves_here (events.Mark kind line) owed goes = (owed, goes)
        leaves_here (events.Ended value line) owed goes = absurd owed
        leaves_here (events.Stopped stop mode line) owed goes = absurd owed

-- there is room where there is room for as many cells as instructions
pub state_room : (code : Code) (f : Routine) (function base : ℕ) (callers : List Caller) (h : Here) (room : ℕ) → Fits code (At (running function base h.mode) callers h.place h.own) → slice_get code.functions function ≡ Some f → length f.body ≤ room → HasRoom f base h room
state_room code f function base callers h room fits is enough =
    fits_room code fits.0 f base (running function base h.mode) callers h fits.2.0 room (is, refl) fits.1 fits.2.1 enough

-- ---- answers

-- an answer leaves the machine where it is in its plans
answered_at : (code : Code) (plans : List Plan) (left r : ℕ) (s : State) → IsAt code plans left s → IsAt code plans left (answered r s)
answered_at code plans left r (Begin function arguments line) at = at
answered_at code plans left r (At a callers place []) at = at
answered_at code plans left r (At a callers place (x ∷ rest)) at = at

-- a machine that is owed an answer fits with any
pub answered_fits : (code : Code) (old new : State) (units units' r : ℕ) → Falls code old units new units' → Fits code old → Fits code (answered r new)
answered_fits code old new units units' r falls fits =
    let here = falls fits.0 fits.2.0 fits.1 fits.2.1 in
    (fits.0, fits.1, (here.0, answered_at code fits.0 here.0 r new here.1))

-- a machine whose steps or units have fallen fits
pub falls_fits : (code : Code) (old new : State) (units units' : ℕ) → Falls code old units new units' → Fits code old → Fits code new
falls_fits code old new units units' falls fits =
    let here = falls fits.0 fits.2.0 fits.1 fits.2.1 in
    (fits.0, fits.1, (here.0, here.1))

-- an answer leaves the frames as they are
pub answered_stacked : (code : Code) (place r : ℕ) (s : State) → IsStacked code place s → IsStacked code place (answered r s)
answered_stacked code place r (Begin function arguments line) stacked = stacked
answered_stacked code place r (At a callers at []) stacked = stacked
answered_stacked code place r (At a callers at (x ∷ rest)) stacked = stacked
