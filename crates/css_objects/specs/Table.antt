-- The table of pending objects.
use Rattle.std.specs.Prelude.{◌≡◌, ◌<◌, ℕ, Bool, not, ◌==◌, List, [], ◌∷◌, ◌++◌, map, filter, is_some, Option, Some}
use Rattle.css_semantics.specs.Pending.{Object}
use Rattle.css_semantics.specs.Clear.{AreApart}
use Rattle.css_record.specs.declared.window.Window.{Window}
use Rattle.css_record.specs.Windows.{window, IsWindow}
use Rattle.css_objects.specs.declared.version.Held.{Held}
use Rattle.css_objects.specs.declared.version.Held.TheVariants as held
use Rattle.std.specs.List.{insert}
use Rattle.css_objects.specs.Ordered.{IsGap, IsAscending}
use Rattle.css_arguments.specs.Lists.{Each}
use Rattle.css_objects.specs.Found.{AreRows}

-- an object: its window, and its current version
pub record Entry : Type 0 where
  pub window : Window
  pub version : Held

-- the task that made a version, also where its bytes are kept now
abbrev pub maker : Held → Option ℕ
maker (held.Made task out) = Some task
maker (held.Kept bytes by) = by

-- a task may write the object: a call since it became pending gave it a version
abbrev pub is_written : Entry → Bool
is_written e = is_some (maker e.version)

abbrev pub object : Entry → Object
object e = record { window = window e.window; is_written = is_written e }

-- the objects of one row, and the others, each in order of base
pub record Table : Type 0 where
  pub rows : List Entry
  pub blocks : List Entry

abbrev pub no_objects : Table
no_objects = record { rows = []; blocks = [] }

-- the order of the table
abbrev pub all_entries : Table → List Entry
all_entries t = t.rows ++ t.blocks

abbrev pub objects : Table → List Object
objects t = map object (all_entries t)

abbrev pub windows : List Entry → List Window
windows es = map (λ e. e.window) es

-- a window of another base
abbrev pub is_other : (base : ℕ) → Window → Bool
is_other base w = not (w.base == base)

-- without the object of a base
abbrev pub without : (base : ℕ) → List Entry → List Entry
without base es = filter (λ e. is_other base e.window) es

-- windows, each with its version
abbrev pub entries : List Window → List Held → List Entry
entries [] versions = []
entries (w ∷ ws) [] = []
entries (w ∷ ws) (v ∷ vs) = record { window = w; version = v } ∷ entries ws vs

-- an object more, in order of base
pub record IsInserted (old : List Entry) (w : Window) (version : Held) (new : List Entry) : Type 0 where
  pub place : ℕ
  pub gap : IsGap (windows old) place w.base
  pub is : new ≡ insert old place (record { window = w; version = version })
  pub ascends : IsAscending (windows new)

-- a window of several rows
pub record IsBlock (w : Window) : Type 0 where
  pub is_window : IsWindow (window w)
  pub several : 1 < w.rows

-- What holds of every table: its rows and its blocks are such, each is in order, the rows that tasks may write stand by themselves
-- too, and no two objects share a byte.
pub record IsTable (rows blocks : List Entry) (written : List Window) : Type 0 where
  pub rows_are : AreRows (windows rows)
  pub blocks_are : Each (windows blocks) IsBlock
  pub written_rows : AreRows written
  pub written_are : written ≡ windows (filter is_written rows)
  pub apart : AreApart (map object (rows ++ blocks))
