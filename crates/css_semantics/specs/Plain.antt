-- A tape without what it says of tasks.
use Rattle.std.specs.Prelude.{ℕ, ◌+◌, Bool, true, false, ◌&&◌, ◌||◌, [], ◌∷◌, if◌then◌else◌}
use Rattle.css_semantics.specs.Actions.{Access, Enters, Leaves, Loads, Stores, Allots, NoAccess, access_of, Kind, OfMachine, OfMain, OfTasks, OfFault, kind_of}
use Rattle.css_semantics.specs.Dialogue.{Action, Item, Tape}
use Rattle.css_semantics.specs.Tasks.{unit_of}

-- an action that a program without directives never asks: a task's call and its return, what begins, ends or waits for tasks, and faults
-- aside
abbrev pub is_tasks : Kind → Bool
is_tasks OfMachine = false
is_tasks OfMain = false
is_tasks OfTasks = true
is_tasks OfFault = false

abbrev pub is_of_tasks : Action → Bool
is_of_tasks action = is_tasks (kind_of action)

-- an access that loads
abbrev pub is_loading : Access → Bool
is_loading (Enters size) = false
is_loading (Leaves base size) = false
is_loading (Loads address width) = true
is_loading (Stores address bytes) = false
is_loading (Allots size) = false
is_loading NoAccess = false

-- an item that a program without directives never asks: one of tasks, or a load of the expressions of a wait or of a dimension
abbrev pub is_left_out : Item → Bool
is_left_out i = is_of_tasks i.action || (is_loading (access_of i.action) && i.is_aside)

-- the tape without such items
abbrev pub plain : Tape → Tape
plain [] = []
plain (i ∷ tape) = if is_left_out i then plain tape else i ∷ plain tape

-- how many entries of functions and of loops' bodies stand on a tape
abbrev pub entries : Tape → ℕ
entries [] = 0
entries (i ∷ tape) = entries tape + unit_of i.action
