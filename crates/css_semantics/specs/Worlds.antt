-- Worlds that keep a state, which is folded over the tape.
use Rattle.std.specs.Prelude.{◌≡◌, [], ◌∷◌, ◌++◌, Bool, true, false, ◌||◌, IsTrue}
use Rattle.css_semantics.specs.Dialogue.{Action, Item, Tape, Reply, World}
use Rattle.css_semantics.specs.Actions.{Kind, OfMachine, OfMain, OfTasks, OfFault, kind_of}

-- the state after a tape, from a first one
abbrev pub state_after : {S : Type 0} → (S → Action → S) → S → Tape → S
state_after learn start [] = start
state_after learn start (i ∷ tape) = learn (state_after learn start tape) i.action

-- a world that replies by its state
abbrev pub world_of : {S : Type 0} → (S → Action → Reply) → (S → Action → S) → S → World
world_of reply learn start tape i = reply (state_after learn start tape) i.action

-- an action to which a machine's space or its units reply
abbrev pub is_machines : Kind → Bool
is_machines OfMachine = true
is_machines OfMain = false
is_machines OfTasks = false
is_machines OfFault = false

abbrev pub is_of_machine : Action → Bool
is_of_machine action = is_machines (kind_of action)

abbrev pub is_faults : Kind → Bool
is_faults OfMachine = false
is_faults OfMain = false
is_faults OfTasks = false
is_faults OfFault = true

abbrev pub is_fault : Action → Bool
is_fault action = is_faults (kind_of action)

-- all items of a tape are a machine's, or faults
abbrev pub AreOfMachine : Tape → Type 0
AreOfMachine [] = Unit {0}
AreOfMachine (i ∷ tape) = IsTrue (is_of_machine i.action || is_fault i.action) × AreOfMachine tape

-- From a tape on, as long as a machine alone adds to it, a world replies to the actions of the machine as a state does, which is this
-- one at the tape.
pub record Follows {S : Type 0} (w : World) (reply : S → Action → Reply) (learn : S → Action → S) (tape : Tape) (state : S) : Type 0 where
  pub replies : (more : Tape) (i : Item) → AreOfMachine more → IsTrue (is_of_machine i.action)
      → w (more ++ tape) i ≡ reply (state_after learn state more) i.action
