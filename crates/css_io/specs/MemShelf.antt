-- A shelf in memory.
use Rattle.std.specs.Prelude.{ℕ, ◌≡◌, ◌⊎◌, List, map, Option, String, Vec, string_bytes, slice_index, find, position, Contains, IsNone}
use Rattle.std.specs.declared.alloc.Global.{Global}
use Rattle.std.specs.Option.{option_map, option_map_or}
use Rattle.std.specs.Str.{bytes_eq}

-- the names and bytes of files
abbrev pub Files : Type 0
Files = List (List ℕ × List ℕ)

abbrev pub named_bytes : String Global × Vec ℕ Global → List ℕ × List ℕ
named_bytes file = (string_bytes file.0, file.1.items)

abbrev pub files_of : List (String Global × Vec ℕ Global) → Files
files_of files = map named_bytes files

-- the place of the first file of this name
abbrev pub place_of : Files → List ℕ → Option ℕ
place_of files name = position (λ file. bytes_eq file.0 name) files

-- the bytes of the first file of this name
abbrev pub bytes_of : Files → List ℕ → Option (List ℕ)
bytes_of files name = option_map (λ file. file.1) (find (λ file. bytes_eq file.0 name) files)

-- the files, a count of faults for each place, where those past the list's end are 0, the count for names without a
-- file, the number of the next call, and the calls that fail
pub record ShelfInMemory : Type 0 where
  pub files : Files
  pub counts : List ℕ
  pub others : ℕ
  pub next : ℕ
  pub failing : List ℕ

-- the bytes of the file of a name
abbrev pub file_of : ShelfInMemory → List ℕ → Option (List ℕ)
file_of shelf name = bytes_of shelf.files name

-- the count of faults of a name
abbrev pub count_of : ShelfInMemory → List ℕ → ℕ
count_of shelf name = option_map_or (λ place. slice_index shelf.counts place) (place_of shelf.files name) shelf.others

-- two names have one count: they have one file, or none
abbrev pub SharesCount : ShelfInMemory → List ℕ → List ℕ → Type 0
SharesCount shelf name other = place_of shelf.files name ≡ place_of shelf.files other

-- the next call for this name fails: it is listed, or the file is missing
abbrev pub NextFails : ShelfInMemory → List ℕ → Type 0
NextFails shelf name = Contains shelf.failing shelf.next ⊎ IsNone (file_of shelf name)
