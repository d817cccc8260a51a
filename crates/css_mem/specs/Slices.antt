-- Rows in a list of bytes, the first of which begins at an index.
use Rattle.std.specs.Prelude.{ℕ, zero, suc, ◌+◌, ◌≤◌, List, [], ◌++◌, take, drop}
use Rattle.css_semantics.specs.Memory.{overlaid}

-- each row ends within so many bytes
abbrev pub RowsFit : (size : ℕ) → (rows at width stride : ℕ) → Type 0
RowsFit size zero at width stride = Unit {0}
RowsFit size (suc rows) at width stride = (at + width ≤ size) × RowsFit size rows (at + stride) width stride

-- the rows' bytes, in order
abbrev pub rows_of : (bytes : List ℕ) → (rows at width stride : ℕ) → List ℕ
rows_of bytes zero at width stride = []
rows_of bytes (suc rows) at width stride = take width (drop at bytes) ++ rows_of bytes rows (at + stride) width stride

-- with others written into the rows, in order
abbrev pub over_rows : (bytes : List ℕ) → (rows at width stride : ℕ) → (new : List ℕ) → List ℕ
over_rows bytes zero at width stride new = bytes
over_rows bytes (suc rows) at width stride new =
    over_rows (overlaid 0 bytes at (take width new)) rows (at + stride) width stride (drop width new)
