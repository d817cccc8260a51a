-- Windows by the ranges of their rows.
use Rattle.std.specs.Prelude.{ℕ, zero, suc, ◌+◌, Bool, true, false, ◌&&◌, ◌||◌, nat_lt}
use Rattle.css_semantics.specs.Tasks.{Window}

-- a row of so many bytes from a base has one from one address up to another
abbrev pub row_meets : (base width from to : ℕ) → Bool
row_meets base width from to = nat_lt base to && nat_lt from (base + width)

-- one of so many rows has one
abbrev pub rows_meet : (rows base width stride from to : ℕ) → Bool
rows_meet zero base width stride from to = false
rows_meet (suc rows) base width stride from to = row_meets base width from to || rows_meet rows (base + stride) width stride from to

-- a window has a byte from one address up to another
abbrev pub window_meets : Window → (from to : ℕ) → Bool
window_meets w from to = rows_meet w.rows w.base w.width w.stride from to

-- one of so many rows shares a byte with a window
abbrev pub rows_share : Window → (rows base width stride : ℕ) → Bool
rows_share w zero base width stride = false
rows_share w (suc rows) base width stride = window_meets w base (base + width) || rows_share w rows (base + stride) width stride
