-- The pending objects along a tape, each with its current version, and a table that stands for them.
use Rattle.std.specs.Prelude.{◌≡◌, ℕ, Bool, true, false, List, [], ◌∷◌, length, map, nat_lt, is_none, slice_get, Some, IsPermutation, if◌then◌else◌}
use Rattle.std.specs.List.{list_any}
use Rattle.css_semantics.specs.Dialogue as dialogue
use Rattle.css_semantics.specs.Dialogue.{Action, Enter, Turn, Leave, Load, Store, Out, In, Malloc, Calls, Returns, Start, Finish, Barrier, Wait, WaitFault, DimFault, Fault, End, Tape}
use Rattle.css_semantics.specs.Memory.{Memory, memory_after}
use Rattle.css_semantics.specs.Tasks as tasks
use Rattle.css_semantics.specs.Tasks.{is_same_window, reads, body, called}
use Rattle.css_semantics.specs.Pending.{Object}
use Rattle.css_semantics.specs.Verdict.{bytes_of_window}
use Rattle.css_record.specs.declared.window.Window.{Window}
use Rattle.css_record.specs.declared.version.VersionName.{VersionName}
use Rattle.css_record.specs.declared.version.VersionName.TheVariants as names
use Rattle.css_record.specs.Windows.{window}
use Rattle.css_objects.specs.declared.version.Held.{Held}
use Rattle.css_objects.specs.declared.version.Held.TheVariants as held
use Rattle.css_objects.specs.Table.{Entry, Table, all_entries, without}
use Rattle.css_objects.specs.Stored.{without_read}
use Rattle.css_objects.specs.Naming.{Given, with_given}

-- ---- what a tape says

-- a window as records have it
abbrev pub coded : tasks.Window → Window
coded w = record { base = w.base; rows = w.rows; width = w.width; stride = w.stride }

-- what a call is given for a pointer, with the bytes that the memory has there
abbrev pub given_in : Memory → dialogue.Argument → Given
given_in m a = let w = tasks.window a in record { window = coded w; direction = a.direction; snapshot = Some (bytes_of_window m w) }

-- Main's call gives each window that it writes a version of the call's number; each other window of it is an object too, with main's
-- bytes if it wasn't one before. Main's store takes away the objects that are only read and have one of its bytes. A wait takes away
-- the object at its address; a barrier, a finish and the end take all.
abbrev pub entries_after : (is_main : Bool) → (number : ℕ) → Memory → List Entry → Action → List Entry
entries_after true number m es (Calls call) = with_given number 0 es (map (given_in m) call.arguments)
entries_after false number m es (Calls call) = es
entries_after true number m es (Store address bytes) = without_read es address (length bytes)
entries_after false number m es (Store address bytes) = es
entries_after is_main number m es (Wait address) = without address es
entries_after is_main number m es Barrier = []
entries_after is_main number m es Finish = []
entries_after is_main number m es (End result) = []
entries_after is_main number m es (Enter size) = es
entries_after is_main number m es Turn = es
entries_after is_main number m es (Leave base size) = es
entries_after is_main number m es (Load address width) = es
entries_after is_main number m es (Out bytes) = es
entries_after is_main number m es In = es
entries_after is_main number m es (Malloc size) = es
entries_after is_main number m es Returns = es
entries_after is_main number m es Start = es
entries_after is_main number m es WaitFault = es
entries_after is_main number m es DimFault = es
entries_after is_main number m es (Fault kind) = es

-- the pending objects at a tape from a start, each with the version that the latest call made which writes it, or else with the bytes
-- that main had there; tasks are numbered in order of their calls
abbrev pub current : (start : Memory) → Tape → List Entry
current start [] = []
current start (i ∷ tape) = entries_after (is_none (body tape)) (called tape) (memory_after start tape) (current start tape) i.action

-- an action may change which objects are pending
abbrev pub is_change : (is_main : Bool) → Action → Bool
is_change is_main (Calls call) = is_main
is_change is_main (Store address bytes) = is_main
is_change is_main (Wait address) = true
is_change is_main Barrier = true
is_change is_main Finish = true
is_change is_main (End result) = true
is_change is_main (Enter size) = false
is_change is_main Turn = false
is_change is_main (Leave base size) = false
is_change is_main (Load address width) = false
is_change is_main (Out bytes) = false
is_change is_main In = false
is_change is_main (Malloc size) = false
is_change is_main Returns = false
is_change is_main Start = false
is_change is_main WaitFault = false
is_change is_main DimFault = false
is_change is_main (Fault kind) = false

-- ---- copies of what is read

-- each window that is read and is no object's has a copy of the bytes that the memory has there
abbrev pub AreSnapshots : Memory → List Object → List Given → Type 0
AreSnapshots m objects gs =
    (i : ℕ) (g : Given) → slice_get gs i ≡ Some g → reads g.direction ≡ true → list_any (λ o. is_same_window (window g.window) o.window) objects ≡ false
    → g.snapshot ≡ Some (bytes_of_window m (window g.window))

-- ---- what a table has of it

-- what is kept of tasks that are over: what those below a number made, by its value
pub record Kept : Type 0 where
  pub first : ℕ
  pub value : (task out : ℕ) → List ℕ

-- a version, for which the bytes stand that are kept of it
abbrev pub kept_of : Kept → Held → Held
kept_of k (held.Made task out) = if nat_lt task k.first then held.Kept (k.value task out) (Some task) else held.Made task out
kept_of k (held.Kept bytes by) = held.Kept bytes by

abbrev pub with_kept : Kept → Entry → Entry
with_kept k e = record { window = e.window; version = kept_of k e.version }

-- the pending objects at a tape, with what is kept
abbrev pub entries_at : Kept → (start : Memory) → Tape → List Entry
entries_at k start tape = map (with_kept k) (current start tape)

-- the table has these, in its own order
abbrev pub StandsFor : Kept → (start : Memory) → Tape → Table → Type 0
StandsFor k start tape t = IsPermutation (all_entries t) (entries_at k start tape)

-- the value of a version by its name
abbrev pub value_of : Kept → VersionName → List ℕ
value_of k (names.Made task out) = k.value task out
value_of k (names.Given place) = []

-- the same, with what tasks below another number made
abbrev pub kept_to : Kept → (first : ℕ) → Kept
kept_to k first = record { first = first; value = k.value }
