-- Which objects are pending: tasks may still read or write them.
use Rattle.std.specs.Prelude.{ℕ, Bool, true, false, not, ◌||◌, List, [], ◌∷◌, ◌++◌, length, filter, map, fold, ◌==◌, is_none, if◌then◌else◌}
use Rattle.std.specs.List.{list_any}
use Rattle.css_semantics.specs.Dialogue.{Action, Enter, Turn, Leave, Load, Store, Out, In, Malloc, Calls, Returns, Start, Finish, Barrier, Wait, WaitFault, DimFault, Fault, End, Tape, Argument}
use Rattle.css_semantics.specs.Memory.{all_from}
use Rattle.css_semantics.specs.Tasks.{Window, window, has_byte, is_same_window, writes, body}

-- an object that a call since the last wait for it names, and whether one writes it
pub record Object : Type 0 where
  pub window : Window
  pub is_written : Bool

-- of so many bytes from an address, one has a property
abbrev pub some_from : (ℕ → Bool) → (address width : ℕ) → Bool
some_from test address width = not (all_from (λ a. not (test a)) address width)

abbrev pub is_named_by : Argument → Object → Bool
is_named_by a object = is_same_window (window a) object.window

-- with what a call is given: a new object, or an old one that may be written now too
abbrev pub with_argument : List Object → Argument → List Object
with_argument objects a =
    if list_any (is_named_by a) objects
    then map (λ o. if is_named_by a o then record o { is_written = o.is_written || writes a.direction } else o) objects
    else objects ++ record { window = window a; is_written = writes a.direction } ∷ []

-- without the objects that are only read and that main stores into: each of their readers has what they were
abbrev pub without_stored : List Object → (address width : ℕ) → List Object
without_stored objects address width = filter (λ o. o.is_written || not (some_from (has_byte o.window) address width)) objects

-- Only main's calls and main's stores count.
abbrev pub pending_after : (is_main : Bool) → List Object → Action → List Object
pending_after true objects (Calls call) = fold with_argument objects call.arguments
pending_after false objects (Calls call) = objects
pending_after true objects (Store address bytes) = without_stored objects address (length bytes)
pending_after false objects (Store address bytes) = objects
pending_after is_main objects (Wait address) = filter (λ o. not (o.window.base == address)) objects
pending_after is_main objects Barrier = []
pending_after is_main objects Finish = []
pending_after is_main objects (End result) = []
pending_after is_main objects (Enter size) = objects
pending_after is_main objects Turn = objects
pending_after is_main objects (Leave base size) = objects
pending_after is_main objects (Load address width) = objects
pending_after is_main objects (Out bytes) = objects
pending_after is_main objects In = objects
pending_after is_main objects (Malloc size) = objects
pending_after is_main objects Returns = objects
pending_after is_main objects Start = objects
pending_after is_main objects WaitFault = objects
pending_after is_main objects DimFault = objects
pending_after is_main objects (Fault kind) = objects

abbrev pub pending : Tape → List Object
pending [] = []
pending (i ∷ tape) = pending_after (is_none (body tape)) (pending tape) i.action
