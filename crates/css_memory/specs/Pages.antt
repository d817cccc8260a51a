-- Pages of 4,096 bytes, and the windows that are marked on them.
use Rattle.std.specs.Prelude.{◌≡◌, ◌≤◌, ◌<◌, ℕ, zero, suc, ◌+◌, ◌-◌, ◌*◌, ◌/◌, min, max, Bool, true, false, List, [], ◌∷◌, ◌++◌, length, slice_index}
use Rattle.std.specs.List.{list_any, AllByRecursion}
use Rattle.css_semantics.specs.Tasks.{Window}
use Rattle.css_semantics.specs.Pending.{some_from}
use Rattle.css_semantics.specs.Rules.{share_byte}
use Rattle.css_semantics.specs.WindowRanges.{window_meets}
use Rattle.css_record.specs.Windows.{IsWindow}

-- the page of an address
abbrev pub page_of : ℕ → ℕ
page_of address = address / 4096

-- a window has a byte on a page
abbrev pub is_on : (page : ℕ) → Window → Bool
is_on page w = window_meets w (4096 * page) (4096 * page + 4096)

-- of so many bytes from an address, one stands on a page on which one of these windows has a byte
abbrev pub touches : List Window → (address length : ℕ) → Bool
touches windows address length = some_from (λ a. list_any (is_on (page_of a)) windows) address length

-- ---- bytes on pages

-- how many bytes two ranges share
abbrev pub shared : (first end from to : ℕ) → ℕ
shared first end from to = min end to - max first from

-- how many of the bytes of so many rows stand between two addresses
abbrev pub rows_between : (rows base width stride from to : ℕ) → ℕ
rows_between zero base width stride from to = 0
rows_between (suc rows) base width stride from to = shared base (base + width) from to + rows_between rows (base + stride) width stride from to

-- how many bytes a window has on a page
abbrev pub bytes_on : (page : ℕ) → Window → ℕ
bytes_on page w = rows_between w.rows w.base w.width w.stride (4096 * page) (4096 * page + 4096)

-- how many bytes windows have on a page
abbrev pub all_on : (page : ℕ) → List Window → ℕ
all_on page [] = 0
all_on page (w ∷ windows) = bytes_on page w + all_on page windows

-- ---- marked windows

-- each of so many rows ends within so many bytes
abbrev pub RowsEnd : (size rows base width stride : ℕ) → Type 0
RowsEnd size zero base width stride = Unit {0}
RowsEnd size (suc rows) base width stride = (base + width ≤ size) × RowsEnd size rows (base + stride) width stride

-- a window within so many bytes
abbrev pub IsWithin : (size : ℕ) → Window → Type 0
IsWithin size w = IsWindow w × RowsEnd size w.rows w.base w.width w.stride

-- a window shares no byte with any of these
abbrev pub IsApart : List Window → Window → Type 0
IsApart windows w = AllByRecursion (λ v. share_byte v w ≡ false) windows

-- no two share a byte
abbrev pub AreDisjoint : List Window → Type 0
AreDisjoint [] = Unit {0}
AreDisjoint (w ∷ windows) = IsApart windows w × AreDisjoint windows

-- Of each page so many bytes are those of these windows, no two of which share a byte.
pub record AreMarked (pages : List ℕ) (marked : List Window) : Type 0 where
  pub bytes : (page : ℕ) → page < length pages → slice_index pages page ≡ all_on page marked
  pub within : AllByRecursion (IsWithin (4096 * length pages)) marked
  pub apart : AreDisjoint marked

-- A window may be marked beside those that are, or isn't marked any more: it shares no byte with them, or is one of them.
abbrev pub MayMark : (more : Bool) → List ℕ → Window → Type 0
MayMark true pages w = (marked : List Window) × AreMarked pages marked × IsApart marked w
MayMark false pages w = (before : List Window) × (after : List Window) × AreMarked pages (before ++ w ∷ after)
