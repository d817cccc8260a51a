-- What steps of sound code come to: effects have the heights of their roles, and steps lead to places of the plans.
use Rattle.std.specs.Prelude.{◌≡◌, ℕ, suc, ◌+◌, ◌-◌, ◌<◌, true, List, length}
use Rattle.css_semantics.specs.Dialogue.{Action, Turn, Load, Store, Out, In, Malloc, Start, Finish, Barrier, Wait}
use Rattle.css_isa.specs.Cells.{cell_as}
use Rattle.css_isa.specs.Code.{Code}
use Rattle.css_isa.specs.Effects.{Effect, Gives, Asks, Tells, Faults, Lacks}
use Rattle.css_isa.specs.Roles.{Role, Straight, Turning, Outward, Telling, Awaiting, Changing, Testing, Jumping, Branching, Calling, Submitting, Returning, role_of}
use Rattle.css_isa.specs.Steps.{State, Finished, Stuck, Step, Moves, Requests, Notifies, Fails, Tests, Enters, Leaves, Submits, Halts, inside, pushed}
use Rattle.css_isa.specs.Soundness.{Plan, IsAt}

-- what the instructions of a role may ask
abbrev pub MayAsk : Role → Action → Type 0
MayAsk (Straight needed taken given) (Load address width) = Unit {0}
MayAsk (Straight needed taken given) (Store address bytes) = Unit {0}
MayAsk Turning Turn = Unit {0}
MayAsk (Outward taken given) (Out bytes) = Unit {0}
MayAsk (Outward taken given) In = Unit {0}
MayAsk (Outward taken given) (Malloc size) = Unit {0}
MayAsk Telling Start = Unit {0}
MayAsk Telling Finish = Unit {0}
MayAsk Telling Barrier = Unit {0}
MayAsk Awaiting (Wait address) = Unit {0}
MayAsk _ _ = ⊥

-- the cells behind instructions that go on at the next place, where so many were there
abbrev pub cells_behind : Role → (height : ℕ) → ℕ
cells_behind (Straight needed taken given) height = height - taken + given
cells_behind (Outward taken given) height = height - taken + given
cells_behind Awaiting height = height - 1
cells_behind Turning height = height
cells_behind Telling height = height
cells_behind (Changing mode) height = height
cells_behind Testing height = height
cells_behind (Jumping to) height = height
cells_behind (Branching to) height = height
cells_behind (Calling k) height = height
cells_behind (Submitting k) height = height
cells_behind Returning height = height

-- what asks nothing
abbrev pub MayBeSilent : Role → Type 0
MayBeSilent Turning = ⊥
MayBeSilent (Straight needed taken given) = Unit {0}
MayBeSilent (Outward taken given) = Unit {0}
MayBeSilent Telling = Unit {0}
MayBeSilent Awaiting = Unit {0}
MayBeSilent (Changing mode) = Unit {0}
MayBeSilent Testing = Unit {0}
MayBeSilent (Jumping to) = Unit {0}
MayBeSilent (Branching to) = Unit {0}
MayBeSilent (Calling k) = Unit {0}
MayBeSilent (Submitting k) = Unit {0}
MayBeSilent Returning = Unit {0}

-- an effect leaves so many cells, asks what it may, and lacks none
abbrev pub IsFitting : Role → (height : ℕ) → Effect → Type 0
IsFitting role height (Gives cells) = (length cells ≡ cells_behind role height) × MayBeSilent role
IsFitting role height (Asks action t cells) = (suc (length cells) ≡ cells_behind role height) × MayAsk role action
IsFitting role height (Tells action cells) = (length cells ≡ cells_behind role height) × MayAsk role action
IsFitting role height (Faults kind) = Unit {0}
IsFitting role height Lacks = ⊥

module _ (code : Code) (plans : List Plan) where
  -- a state at places of the plans, and one with fewer steps left
  abbrev pub IsSomewhere : State → Type 0
  IsSomewhere s = (steps : ℕ) × IsAt code plans steps s

  abbrev pub IsNearer : (steps : ℕ) → State → Type 0
  IsNearer steps s = (fewer : ℕ) × (fewer < steps) × IsAt code plans fewer s

  -- where something was asked: a turn may have as many steps left as there are
  abbrev pub IsOnward : Action → (steps : ℕ) → State → Type 0
  IsOnward Turn steps s = IsSomewhere s
  IsOnward action steps s = IsNearer steps s

  -- A step leads to places of the plans: with fewer steps left, but behind an entry and a turn. The machine is never stuck.
  abbrev pub LeadsOnward : (steps : ℕ) → Step → Type 0
  LeadsOnward steps (Moves next) = IsNearer steps next
  LeadsOnward steps (Requests mode action line t next) = (r : ℕ) → IsOnward action steps (pushed (cell_as t r) next)
  LeadsOnward steps (Notifies mode action line next) = IsOnward action steps next
  LeadsOnward steps (Fails mode kind line) = Unit {0}
  LeadsOnward steps (Tests begun other) = IsNearer steps begun × IsNearer steps other
  LeadsOnward steps (Enters function f is_task arguments line callers) = (base : ℕ) → IsSomewhere (inside function is_task callers base)
  LeadsOnward steps (Leaves base size is_task line next) = IsNearer steps next
  LeadsOnward steps (Submits call function f arguments line callers next) =
      ((base : ℕ) → IsSomewhere (inside function true callers base)) × IsNearer steps next
  LeadsOnward steps (Halts (Finished cell base line)) = Unit {0}
  LeadsOnward steps (Halts Stuck) = ⊥
