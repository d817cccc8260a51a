-- The lists of lengths that a table has.
use Rattle.std.specs.Prelude.{◌≡◌, ℕ, ◌*◌, ◌<◌, ◌≤◌, List, [], ◌∷◌, ◌++◌, length, get_or, slice_get, Option, Some, None}
use Rattle.css_types.specs.Types.{biggest}
use Rattle.css_type_table.specs.declared.rows.Row.{Row}

-- row by row, the outermost array's length first
abbrev pub Lists : Type 0
Lists = List (List ℕ)

abbrev pub list_at : Lists → Option ℕ → List ℕ
list_at lists None = []
list_at lists (Some row) = get_or lists row []

-- a row that the table has, or none
abbrev pub IsRow : Lists → Option ℕ → Type 0
IsRow lists None = Unit {0}
IsRow lists (Some row) = row < length lists

-- how many elements such arrays have
abbrev pub elements_of : List ℕ → ℕ
elements_of [] = 1
elements_of (n ∷ ns) = n * elements_of ns

-- rows behind others, each a length before the list of an older row
abbrev pub with_rows : Lists → List Row → Lists
with_rows lists [] = lists
with_rows lists (r ∷ rows) = with_rows (lists ++ (r.count ∷ list_at lists r.rest) ∷ []) rows

abbrev pub lists_of : List Row → Lists
lists_of rows = with_rows [] rows

-- a row at its place
pub record StandsAt (lists : Lists) (place : ℕ) (r : Row) : Type 0 where
  pub list : get_or lists place [] ≡ r.count ∷ list_at lists r.rest
  pub rest : IsRow lists r.rest
  pub elements : r.elements ≡ elements_of (get_or lists place [])
  pub some : 0 < r.elements
  pub few : r.elements ≤ biggest

-- no two rows have one list
abbrev pub IsOnce : Lists → Type 0
IsOnce lists = (i j : ℕ) → i < length lists → j < length lists → get_or lists i [] ≡ get_or lists j [] → i ≡ j

-- Each row stands at its place, and no list has two rows.
pub record AreRows (rows : List Row) : Type 0 where
  pub few : length rows ≤ 4294967295
  pub stand : (place : ℕ) (r : Row) → slice_get rows place ≡ Some r → StandsAt (lists_of rows) place r
  pub once : (i j : ℕ) → i < length rows → j < length rows → get_or (lists_of rows) i [] ≡ get_or (lists_of rows) j [] → i ≡ j
