-- Where the bytes of windows are kept.
use Rattle.std.specs.Prelude.{◌≡◌, ◌≤◌, ◌<◌, ℕ, ◌+◌, ◌*◌, ◌^◌, List, [], ◌∷◌, length, map, Some, slice_get}
use Rattle.css_base.specs.declared.direction.Direction.{Direction}
use Rattle.css_semantics.specs.Tasks.{Window, Use}
use Rattle.css_vm.specs.declared.code.ArgShape.{ArgShape}
use Rattle.css_vm.specs.declared.code.ArgShape.TheVariants as shapes
use Rattle.css_record.specs.Windows.{window, IsWindow}
use Rattle.css_task.specs.Cells.{addresses, before}
use Rattle.css_task.specs.declared.placed.Placed.{Placed}

-- so many bytes from an address are in a row, from a column on, which is at this offset
pub record IsAt (w : Window) (address count offset : ℕ) : Type 0 where
  pub row : ℕ
  pub column : ℕ
  pub address_is : address ≡ w.base + (row * w.stride + column)
  pub offset_is : offset ≡ row * w.width + column
  pub row_within : row < w.rows
  pub column_within : column + count ≤ w.width

-- there is a window for each part that is one
abbrev pub AreWindows : List ArgShape → List Window → Type 0
AreWindows [] [] = Unit {0}
AreWindows [] (w ∷ windows) = ⊥
AreWindows (shapes.Scalar ∷ parts) windows = AreWindows parts windows
AreWindows (shapes.Window direction element dims strided ∷ parts) [] = ⊥
AreWindows (shapes.Window direction element dims strided ∷ parts) (w ∷ windows) = IsWindow w × AreWindows parts windows

abbrev pub use_of : Placed → Use
use_of p = record { window = window p.window; direction = p.direction }

abbrev pub uses_of : List Placed → List Use
uses_of all = map use_of all

-- the windows stand one behind the other
pub record ArePlaced (all : List Placed) : Type 0 where
  pub windows : (j : ℕ) (p : Placed) → slice_get all j ≡ Some p → IsWindow (window p.window)
  pub firsts : (j : ℕ) (p : Placed) → slice_get all j ≡ Some p → p.first ≡ before (uses_of all) j
  pub small : length (addresses (uses_of all)) < 2 ^ 63

-- so many bytes from an address are in a row of one of the windows, with this direction, and stand at this offset among all bytes
pub record IsHit (all : List Placed) (address count offset : ℕ) (direction : Direction) : Type 0 where
  pub number : ℕ
  pub placed : Placed
  pub there : slice_get all number ≡ Some placed
  pub in_window : ℕ
  pub at : IsAt (window placed.window) address count in_window
  pub offset_is : offset ≡ before (uses_of all) number + in_window
  pub direction_is : direction ≡ placed.direction
