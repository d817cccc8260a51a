-- What a machine over a task's space comes to from its start on, where it may ask on the way whether tasks are made.
use Rattle.std.specs.Prelude.{◌≡◌, ℕ, ◌+◌, [], ◌++◌}
use Rattle.css_semantics.specs.Dialogue.{Tape, World}
use Rattle.css_semantics.specs.Worlds.{state_after, AreOfMachine, Follows}
use Rattle.css_semantics.specs.Units.{Metered, metered, spending}
use Rattle.css_task.specs.Cells.{Kept, kept_place, kept_reply, kept_after}
use Rattle.css_vm.specs.declared.machine.Event.{Event}
use Rattle.css_vm.specs.declared.machine.Event.TheVariants as events
use Rattle.css_vm.specs.Code.{Code}
use Rattle.css_vm.specs.Machine.{State, exec}
use Rattle.css_vm.specs.Events.{Does, IsLeft, IsInside, IsStacked}
use Rattle.css_task.specs.declared.body.BodyEnd.{BodyEnd}
use Rattle.css_task.specs.declared.body.BodyEnd.TheVariants as ends

-- in each world that replies to a machine as the space does from the start on, the machine adds to the empty tape by itself, comes so
-- from the first space to the other one, and this holds of the world and the tape
abbrev pub FromStart : (start space' : Metered Kept) → (World → Tape → Type 0) → Type 0
FromStart start space' Holds = (w : World) → Follows w (metered kept_reply) (spending kept_after) [] start →
    (more : Tape) × AreOfMachine more × (state_after (spending kept_after) start more ≡ space') × Holds w (more ++ [])

-- there is this event
pub record Arrives (code : Code) (old : State) (start : Metered Kept) (e : Event) (new : State) (space' : Metered Kept) : Type 0 where
  pub end : Metered Kept
  pub is_left : IsLeft e end space'
  pub does : FromStart start end (λ w tape. Does w code old e new [] tape)

-- it goes on from another state
pub record GoesOn (code : Code) (old : State) (start : Metered Kept) (new : State) (space' : Metered Kept) : Type 0 where
  pub goes : FromStart start space' (λ w tape. (steps : ℕ) × ((n : ℕ) → exec w code (steps + n) old [] ≡ exec w code n new tape))

-- how a body ends: it returns, and its frame is the space's innermost one; or it stops
abbrev pub EndsBody : Code → (old : State) (start : Metered Kept) → BodyEnd → (new : State) (space' : Metered Kept) → Type 0
EndsBody code old start (ends.Returned line) new space' =
    ((cell : ℕ) × Arrives code old start (events.Ended cell line) new space') × IsInside new × IsStacked code (kept_place space'.state) new
EndsBody code old start (ends.Stopped stop line) new space' = Arrives code old start (events.Stopped stop line) new space'
