-- Pending objects as they are lent from the table.
use Rattle.std.specs.Prelude.{◌≡◌, ◌≢◌, ◌≤◌, ℕ, Bool, true, false, List, slice_get, Some}
use Rattle.std.specs.List.{list_any}
use Rattle.css_semantics.specs.Tasks.{is_same_window}
use Rattle.css_semantics.specs.Rules.{share_byte}
use Rattle.css_record.specs.declared.window.Window.{Window}
use Rattle.css_record.specs.Windows.{window}
use Rattle.css_objects.specs.declared.version.Held.{Held}
use Rattle.css_objects.specs.declared.version.Held.TheVariants as held
use Rattle.css_objects.specs.declared.ordered.Found.{Found}
use Rattle.css_objects.specs.declared.pending.Version.{Version}
use Rattle.css_objects.specs.declared.pending.Version.TheVariants as lent
use Rattle.css_objects.specs.declared.pending.Pending.{Pending}
use Rattle.css_objects.specs.declared.pending.Probe.{Probe}
use Rattle.css_objects.specs.declared.pending.Probe.TheVariants as probes
use Rattle.css_objects.specs.Table.{Entry, Table, is_written, all_entries, objects}

-- a version that is lent
abbrev pub IsLent : Held → Version → Type 0
IsLent (held.Made task out) (lent.Made t o) = (t ≡ task) × (o ≡ out)
IsLent (held.Made task out) (lent.Kept b) = ⊥
IsLent (held.Kept bytes by) (lent.Made t o) = ⊥
IsLent (held.Kept bytes by) (lent.Kept b) = b.now ≡ bytes

-- an object that is lent
pub record Shows (e : Entry) (p : Pending) : Type 0 where
  pub window : p.window ≡ e.window
  pub written : p.written ≡ is_written e
  pub version : IsLent e.version p.version

-- the object at a place of a list is lent
pub record ShowsAt (es : List Entry) (place : ℕ) (p : Pending) : Type 0 where
  pub entry : Entry
  pub at : slice_get es place ≡ Some entry
  pub shows : Shows entry p

-- an object of the table is lent
pub record IsShown (t : Table) (p : Pending) : Type 0 where
  pub place : ℕ
  pub shown : ShowsAt (all_entries t) place p

-- A window of an object shares a byte with another window, and no object is equal to that. Of those that share a byte with it this
-- one has the greatest base.
pub record Crosses (t : Table) (w v : Window) : Type 0 where
  pub none_equal : list_any (λ o. is_same_window (window w) o.window) (objects t) ≡ false
  pub place : ℕ
  pub entry : Entry
  pub at : slice_get (all_entries t) place ≡ Some entry
  pub is : entry.window ≡ v
  pub shares : share_byte (window w) (window v) ≡ true
  pub greatest : (i : ℕ) (e : Entry) → slice_get (all_entries t) i ≡ Some e → share_byte (window w) (window e.window) ≡ true → e.window.base ≤ v.base

-- how a window stands to the pending objects
abbrev pub IsProbe : Table → Window → Probe → Type 0
IsProbe t w probes.Nothing = list_any (λ o. share_byte (window w) o.window) (objects t) ≡ false
IsProbe t w (probes.Same p) = (p.window ≡ w) × IsShown t p
IsProbe t w (probes.Crosses v) = Crosses t w v

-- one shares a byte with the window and none is equal to it
abbrev pub crosses : Probe → Bool
crosses probes.Nothing = false
crosses (probes.Same p) = false
crosses (probes.Crosses v) = true

-- what is said of a window that was found among those of a list
abbrev pub IsSeen : List Entry → (f : Found) → Window → Probe → Type 0
IsSeen es f w probes.Nothing = ⊥
IsSeen es f w (probes.Same p) = (f.window ≡ w) × (p.window ≡ w) × ShowsAt es f.place p
IsSeen es f w (probes.Crosses v) = (f.window ≢ w) × (v ≡ f.window)
