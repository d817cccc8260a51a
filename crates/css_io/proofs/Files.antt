-- Files by name.
use Rattle.std.proofs.Common.{◌≡◌, ℕ, ◌+◌, ◌<◌, ◌≤◌, Bool, cond, not, List, [], ◌∷◌, length, map, get_or, IsSome, IsNone, slice_index, Option, Some, None, String, Vec, Global, string_bytes, refl, ap, ◌∙◌, ⊎_elim, arith}
use Rattle.std.specs.List.{find, position, position_or_len, slice_get}
use Rattle.std.specs.Option.{option_map, option_map_or}
use Rattle.std.specs.Str.{bytes_eq}
use Rattle.std.proofs.lemmas.Bool.{cases_lt, lt-ltb, le-ltb}
use Rattle.std.proofs.lemmas.List.{length-map}
use Rattle.std.proofs.lemmas.List.Folds.{find_at}
use Rattle.std.proofs.lemmas.Option.{slice_get-get_or, slice_get_past, slice_get-map}
use Rattle.css_io.specs.MemShelf.{Files, named_bytes, files_of, place_of, bytes_of}

module _ {X Y : Type 0} (p : Y → Bool) (f : X → Y) where
  position_or_len-map : (xs : List X) → position_or_len p (map f xs) ≡ position_or_len (λ x. p (f x)) xs
  position_or_len-map [] = refl
  position_or_len-map (x ∷ xs) = ap (λ n. cond (not (p (f x))) (1 + n) 0) (position_or_len-map xs)

  pub position-map : (xs : List X) → position p (map f xs) ≡ position (λ x. p (f x)) xs
  position-map xs = rw (position_or_len-map xs, length-map xs f)

module _ {X : Type 0} (p : X → Bool) where
  -- what is found is what stands at the first place
  pub find-at_position : (xs : List X) (i : ℕ) → Some i ≡ position p xs → (i < length xs) × (find p xs ≡ slice_get xs i)
  find-at_position xs i found =
      let n = position_or_len p xs in
      ⊎_elim
      (λ lt. let first : position p xs ≡ Some n = rw (lt-ltb n (length xs) lt) in
      let same : i ≡ n = cc in
      rw same (lt, find_at p xs))
      (λ ge. let none : position p xs ≡ None = rw (le-ltb n (length xs) ge) in cc)
      (cases_lt n (length xs))

  -- nothing is found where there is no first place
  pub find-at_none : (xs : List X) → None ≡ position p xs → find p xs ≡ None
  find-at_none xs missing =
      let n = position_or_len p xs in
      ⊎_elim
      (λ lt. let first : position p xs ≡ Some n = rw (lt-ltb n (length xs) lt) in cc)
      (λ ge. find_at p xs ∙ slice_get_past xs n ge)
      (cases_lt n (length xs))

-- the place of a name, over the files as they are kept
pub place_of-files : (files : List (String Global × Vec ℕ Global)) (name : List ℕ) → place_of (files_of files) name ≡ position (λ file. bytes_eq (string_bytes file.0) name) files
place_of-files files name = position-map (λ file. bytes_eq file.0 name) named_bytes files

-- a name without a place has no file
pub bytes_of-missing : (files : Files) (name : List ℕ) → None ≡ place_of files name → IsNone (bytes_of files name)
bytes_of-missing files name missing = rw (find-at_none (λ file. bytes_eq file.0 name) files missing)

-- the bytes of a name are those at its place
pub bytes_of-found : (files : List (String Global × Vec ℕ Global)) (name : List ℕ) (place : ℕ) (file : String Global × Vec ℕ Global) → Some place ≡ place_of (files_of files) name → file ≡ get_or files place file → bytes_of (files_of files) name ≡ Some file.1.items
bytes_of-found files name place file found is =
    let at = find-at_position (λ named. bytes_eq named.0 name) (files_of files) place found in
    let lt : place < length files = rw length-map at at.0 in
    let there : slice_get (files_of files) place ≡ Some (named_bytes file) = rw (slice_get-map named_bytes files place, slice_get-get_or files place file lt, ← is) in
    ap (option_map (λ (named : List ℕ × List ℕ). named.1)) (at.1 ∙ there)

-- a name with a place has bytes
pub bytes_of-there : (files : Files) (name : List ℕ) (place : ℕ) → Some place ≡ place_of files name → IsSome (bytes_of files name)
bytes_of-there files name place found =
    let at = find-at_position (λ named. bytes_eq named.0 name) files place found in
    let there = at.1 ∙ slice_get-get_or files place ([], []) at.0 in
    rw there

map_or-below : (low high : ℕ → ℕ) → ((k : ℕ) → low k ≤ high k) → (place : Option ℕ) (others : ℕ) → option_map_or low place others ≤ option_map_or high place others
map_or-below low high below None others = omega arith
map_or-below low high below (Some k) others = below k

-- where no place's count falls, no name's does
pub counts-never_fall : (files : Files) (old new : List ℕ) (others : ℕ) → ((k : ℕ) → slice_index old k ≤ slice_index new k) → (name : List ℕ) → option_map_or (λ place. slice_index old place) (place_of files name) others ≤ option_map_or (λ place. slice_index new place) (place_of files name) others
counts-never_fall files old new others kept name =
    map_or-below (λ place. slice_index old place) (λ place. slice_index new place) kept (place_of files name) others
