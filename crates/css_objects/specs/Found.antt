-- What a search for windows that share bytes finds.
use Rattle.std.specs.Prelude.{◌≡◌, ◌+◌, ◌*◌, ◌^◌, ◌≤◌, ◌<◌, ℕ, true, false, List, slice_get, Some}
use Rattle.css_semantics.specs.Rules.{share_byte}
use Rattle.css_record.specs.declared.window.Window.{Window}
use Rattle.css_record.specs.Windows.{window, IsWindow}
use Rattle.css_arguments.specs.Lists.{Each}
use Rattle.css_objects.specs.declared.ordered.Found.{Found}
use Rattle.css_objects.specs.Ordered.{Stands}
use Rattle.css_semantics.specs.WindowRanges.{window_meets}

-- a window of one row
pub record IsRow (w : Window) : Type 0 where
  pub is_window : IsWindow (window w)
  pub one : w.rows ≡ 1

-- Windows of one row, of which each ends before the next one begins.
pub record AreRows (windows : List Window) : Type 0 where
  pub rows : Each windows IsRow
  pub parted : (i j : ℕ) (v w : Window) → i < j → slice_get windows i ≡ Some v → slice_get windows j ≡ Some w → v.base + v.width ≤ w.base

-- no window has a byte from one address up to another
abbrev pub NoneMeets : List Window → (from to : ℕ) → Type 0
NoneMeets windows from to = Each windows (λ w. window_meets (window w) from to ≡ false)

-- the window that is found has one, and no window behind it begins before the range ends
pub record IsLastMeeting (windows : List Window) (from to : ℕ) (f : Found) : Type 0 where
  pub stands : Stands windows f
  pub meets : window_meets (window f.window) from to ≡ true
  pub last : (i : ℕ) (w : Window) → slice_get windows i ≡ Some w → w.base < to → i ≤ f.place

-- the window that is found has one, and has the greatest base of those that do
pub record IsGreatestMeeting (windows : List Window) (from to : ℕ) (f : Found) : Type 0 where
  pub stands : Stands windows f
  pub meets : window_meets (window f.window) from to ≡ true
  pub greatest : Each windows (λ v. window_meets (window v) from to ≡ true → v.base ≤ f.window.base)

-- no window shares a byte with this one
abbrev pub NoneShares : List Window → Window → Type 0
NoneShares windows w = Each windows (λ v. share_byte (window w) (window v) ≡ false)

-- the window that is found shares one, and has the greatest base of those that do
pub record IsLastSharing (windows : List Window) (w : Window) (f : Found) : Type 0 where
  pub stands : Stands windows f
  pub shares : share_byte (window w) (window f.window) ≡ true
  pub greatest : Each windows (λ v. share_byte (window w) (window v) ≡ true → v.base ≤ f.window.base)

-- From one number of steps to another there are at most `scanned` and, for each of `searches` searches among so many windows, the
-- greatest number to whose power 2 is at most twice their number and one.
abbrev pub TakesAtMost : (count scanned searches old new : ℕ) → Type 0
TakesAtMost count scanned searches old new = (depth : ℕ) → 2 * count + 1 < 2 ^ (depth + 1) → new ≤ old + scanned + searches * depth
