-- The cells of all activations that are open: each activation's stand above its caller's.
use Rattle.std.specs.Prelude.{ℕ, ◌≤◌, false, List, [], ◌∷◌, take, drop, reverse}
use Rattle.css_vm.specs.declared.activations.Saved.{Saved}
use Rattle.css_vm.specs.Machine.{Activation, Caller}

-- the cells of the innermost activation, the topmost first, and those below them, the lowest first
pub record Parted : Type 0 where
  pub own : List ℕ
  pub below : List ℕ

-- cells whose innermost activation's begin at a floor
abbrev pub parted : (floor : ℕ) (cells : List ℕ) → Parted
parted floor cells = record { own = reverse (drop floor cells); below = take floor cells }

-- a function that runs, and wasn't called as a task
abbrev pub running : (function base : ℕ) → Activation
running function base = record { function = function; base = base; is_task = false }

-- the callers that are saved, the nearest first, with the cells of all of them
abbrev pub callers_of : List Saved → (cells : List ℕ) → List Caller
callers_of [] cells = []
callers_of (s ∷ saved) cells =
    let parts = parted s.floor cells in
    record { activation = running s.function s.base; place = s.place; stack = parts.own } ∷ callers_of saved parts.below

-- each caller's cells begin within those that stand below its callee's
abbrev pub StandWithin : List Saved → (cells : ℕ) → Type 0
StandWithin [] cells = Unit {0}
StandWithin (s ∷ saved) cells = (s.floor ≤ cells) × StandWithin saved s.floor
