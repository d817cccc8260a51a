-- Windows in order of base, and searches among them.
use Rattle.std.specs.Prelude.{◌≡◌, ◌+◌, ◌*◌, ◌-◌, ◌^◌, ◌≤◌, ◌<◌, ℕ, List, length, map, slice_get, slice_index, Some}
use Rattle.css_record.specs.declared.window.Window.{Window}
use Rattle.css_objects.specs.declared.ordered.Found.{Found}

abbrev pub bases : List Window → List ℕ
bases windows = map (λ w. w.base) windows

-- each base is above all before it
pub record IsAscending (windows : List Window) : Type 0 where
  pub rises : (i j : ℕ) → i < j → j < length (bases windows) → slice_index (bases windows) i < slice_index (bases windows) j

-- the windows stand in order of base, and each has its base as its key
pub record IsInOrder (keys : List ℕ) (windows : List Window) : Type 0 where
  pub keyed : keys ≡ bases windows
  pub ascends : IsAscending windows

-- from this place on no window begins below an address
abbrev pub StandAbove : List Window → (end place : ℕ) → Type 0
StandAbove windows end place = (i : ℕ) → place ≤ i → i < length windows → end ≤ slice_index (bases windows) i

-- the window that is found stands there
abbrev pub Stands : List Window → Found → Type 0
Stands windows f = slice_get windows f.place ≡ Some f.window

-- the window that is found is the last one that begins below an address
pub record IsLastBelow (windows : List Window) (end : ℕ) (f : Found) : Type 0 where
  pub stands : Stands windows f
  pub below : f.window.base < end
  pub before : (i : ℕ) → i < f.place → slice_index (bases windows) i < f.window.base
  pub above : StandAbove windows end (f.place + 1)

-- the window that is found has this base
pub record IsOfBase (windows : List Window) (base : ℕ) (f : Found) : Type 0 where
  pub stands : Stands windows f
  pub same : f.window.base ≡ base

-- no window has this base
abbrev pub HasNone : List Window → (base : ℕ) → Type 0
HasNone windows base = (i : ℕ) → i < length windows → slice_index (bases windows) i ≡ base → ⊥

-- a search among so many windows took the number of steps from one to another: 2 to the power of the steps that it took is at most twice
-- their number and one
pub record IsSearch (count old new : ℕ) : Type 0 where
  pub grows : old ≤ new
  pub few : 2 ^ (new - old) ≤ 2 * count + 1

-- a window of this base would stand at a place
pub record IsGap (windows : List Window) (place base : ℕ) : Type 0 where
  pub within : place ≤ length windows
  pub below : (i : ℕ) → i < place → slice_index (bases windows) i < base
  pub above : (i : ℕ) → place ≤ i → i < length windows → base < slice_index (bases windows) i
