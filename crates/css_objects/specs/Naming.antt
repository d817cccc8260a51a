-- What a call reads and makes, by the table.
use Rattle.std.specs.Prelude.{◌≡◌, ◌<◌, ◌+◌, ℕ, Bool, false, ◌&&◌, ◌||◌, ◌==◌, List, [], ◌∷◌, ◌++◌, length, map, find, Option, Some, None, option_map, slice_index, if◌then◌else◌}
use Rattle.std.specs.List.{list_any}
use Rattle.css_base.specs.declared.direction.Direction.{Direction}
use Rattle.css_arguments.specs.declared.argument.Argument.{Argument}
use Rattle.css_semantics.specs.Dialogue as dialogue
use Rattle.css_semantics.specs.Tasks.{is_same_window, reads, writes}
use Rattle.css_semantics.specs.Pending.{Object, is_named_by}
use Rattle.css_semantics.specs.Rules.{overlap}
use Rattle.css_arguments.specs.Lists.{Each}
use Rattle.css_record.specs.declared.version.VersionName.{VersionName}
use Rattle.css_record.specs.declared.version.VersionName.TheVariants as names
use Rattle.css_record.specs.declared.window.Window.{Window}
use Rattle.css_record.specs.Windows.{window}
use Rattle.css_objects.specs.declared.version.Held.{Held}
use Rattle.css_objects.specs.declared.version.Held.TheVariants as held
use Rattle.css_objects.specs.Table.{Entry, maker}

-- ---- what is read

-- the version of the object of a window
abbrev pub version_of : List Entry → Window → Option Held
version_of es w = option_map (λ e. e.version) (find (λ e. is_same_window (window w) (window e.window)) es)

-- what a call is given for a pointer: its window, what the task does with it, and a copy of its bytes, if there is one
pub record Given : Type 0 where
  pub window : Window
  pub direction : Direction
  pub snapshot : Option (List ℕ)

-- the pointers of a call, in order
abbrev pub given_by : List Window → List Argument → (snapshots : List (Option (List ℕ))) → List Given
given_by (w ∷ windows) (a ∷ arguments) (s ∷ snapshots) = record { window = w; direction = a.direction; snapshot = s } ∷ given_by windows arguments snapshots
given_by [] arguments snapshots = []
given_by (w ∷ windows) [] snapshots = []
given_by (w ∷ windows) (a ∷ arguments) [] = []

-- the object's version, or else the copy
abbrev pub or_snapshot : Option Held → Option (List ℕ) → Option Held
or_snapshot (Some version) snapshot = Some version
or_snapshot None None = None
or_snapshot None (Some bytes) = Some (held.Kept bytes None)

-- the version that is read for a pointer, if it is read
abbrev pub read_for : List Entry → Given → Option Held
read_for es g = if reads g.direction then or_snapshot (version_of es g.window) g.snapshot else None

-- with a version more in front, if there is one
abbrev pub and_read : Option Held → List Held → List Held
and_read None versions = versions
and_read (Some version) versions = version ∷ versions

-- the versions that are read, in order
abbrev pub read_by : List Entry → List Given → List Held
read_by es [] = []
read_by es (g ∷ gs) = and_read (read_for es g) (read_by es gs)

-- the bytes of those that are there
abbrev pub bytes_in : List Held → List (List ℕ)
bytes_in [] = []
bytes_in (held.Made task out ∷ versions) = bytes_in versions
bytes_in (held.Kept bytes by ∷ versions) = bytes ∷ bytes_in versions

-- their names: those whose bytes are there are named by their place among those, counted from a number on
abbrev pub names_in : (place : ℕ) → List Held → List VersionName
names_in place [] = []
names_in place (held.Made task out ∷ versions) = names.Made task out ∷ names_in place versions
names_in place (held.Kept bytes by ∷ versions) = names.Given place ∷ names_in (place + 1) versions

-- the version was made by a task
abbrev pub is_made_by : (task : ℕ) → Option ℕ → Bool
is_made_by task None = false
is_made_by task (Some t) = t == task

-- each number is above all before it
abbrev pub Rises : List ℕ → Type 0
Rises numbers = (i j : ℕ) → i < j → j < length numbers → slice_index numbers i < slice_index numbers j

-- a task more, if it wasn't there
pub record IsTaskAdded (old : List ℕ) (task : ℕ) (new : List ℕ) : Type 0 where
  pub rise : Rises new
  pub all : (t : ℕ) → list_any (λ u. u == t) new ≡ (list_any (λ u. u == t) old || (task == t))

-- the tasks that made some versions, in rising order
pub record AreMakers (versions : List Held) (tasks : List ℕ) : Type 0 where
  pub rise : Rises tasks
  pub all : (task : ℕ) → list_any (λ t. t == task) tasks ≡ list_any (λ v. is_made_by task (maker v)) versions

-- ---- windows

-- none of the windows overlaps an object, or another one, without being equal to it
pub record AreClear (windows : List Window) (objects : List Object) : Type 0 where
  pub objects_clear : Each windows (λ w. list_any (λ o. overlap (window w) o.window) objects ≡ false)
  pub windows_clear : Each windows (λ v. Each windows (λ w. overlap (window v) (window w) ≡ false))

-- whether a written argument's window is an object
abbrev pub renames : List Object → dialogue.Argument → Bool
renames objects a = writes a.direction && list_any (is_named_by a) objects

-- ---- what becomes of the table

-- with this version of a window's object, which may be new
abbrev pub with_version : List Entry → Window → Held → List Entry
with_version es w version =
    if list_any (λ e. is_same_window (window w) (window e.window)) es
    then map (λ e. if is_same_window (window w) (window e.window) then record { window = e.window; version = version } else e) es
    else es ++ record { window = w; version = version } ∷ []

-- with an object that is only read, if it isn't there, and has these bytes
abbrev pub with_read : List Entry → Window → (bytes : List ℕ) → List Entry
with_read es w bytes =
    if list_any (λ e. is_same_window (window w) (window e.window)) es then es
    else es ++ record { window = w; version = held.Kept bytes None } ∷ []

-- the same where there is a copy of its bytes
abbrev pub with_snapshot : List Entry → Window → Option (List ℕ) → List Entry
with_snapshot es w None = es
with_snapshot es w (Some bytes) = with_read es w bytes

-- with what a task of this number is given for one pointer: where it writes, the version that it makes of its writing parameter of this
-- number, and else an object that is read
abbrev pub with_one : (number out : ℕ) → List Entry → Given → List Entry
with_one number out es g = if writes g.direction then with_version es g.window (held.Made number out) else with_snapshot es g.window g.snapshot

-- the number of the next writing parameter
abbrev pub next_out : (out : ℕ) → Direction → ℕ
next_out out d = if writes d then out + 1 else out

-- the same of all pointers, in order
abbrev pub with_given : (number out : ℕ) → List Entry → List Given → List Entry
with_given number out es [] = es
with_given number out es (g ∷ gs) = with_given number (next_out out g.direction) (with_one number out es g) gs
