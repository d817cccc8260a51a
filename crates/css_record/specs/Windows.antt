-- Windows as the definitions of tasks have them.
use Rattle.std.specs.Prelude.{◌≡◌, ◌≤◌, ◌^◌, ℕ}
use Rattle.css_record.specs.declared.window.Window as coded
use Rattle.css_semantics.specs.Tasks.{Window, span}

abbrev pub window : coded.Window → Window
window w = record { base = w.base; rows = w.rows; width = w.width; stride = w.stride }

-- A window has a byte in each of its rows, whose span is at most 2^30, and stands in its one form.
pub record IsWindow (w : Window) : Type 0 where
  pub rows : 1 ≤ w.rows
  pub width : 1 ≤ w.width
  pub apart : w.width ≤ w.stride
  pub form : w.width ≡ w.stride → w.rows ≡ 1
  pub one_row : w.rows ≡ 1 → w.width ≡ w.stride
  pub small : span w ≤ 2 ^ 30
