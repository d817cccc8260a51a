-- What holds of all windows of a list.
use Rattle.std.specs.Prelude.{◌≡◌, ℕ, List, slice_get, Some}
use Rattle.css_record.specs.declared.window.Window.{Window}

-- all windows of a list have a property
abbrev pub Each : List Window → (Window → Type 0) → Type 0
Each windows P = (i : ℕ) (w : Window) → slice_get windows i ≡ Some w → P w
