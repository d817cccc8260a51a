-- The free addresses of a local store, and the first hole that holds a length.
use Rattle.std.specs.Prelude.{◌≡◌, ◌+◌, ◌<◌, ◌≤◌, ℕ, length, All, ◌⊎◌}
use Rattle.css_place.specs.declared.stretch.Stretch.{Stretch}
use Rattle.css_place.specs.Places.{Store, end_of}

-- the address is one of the stretch's
pub record IsIn (address : ℕ) (s : Stretch) : Type 0 where
  pub from : s.start ≤ address
  pub below : address < end_of s

-- the address is inside the size and in no place out
pub record IsFree (store : Store) (address : ℕ) : Type 0 where
  pub inside : address < store.size
  pub unplaced : All (λ s. ¬ IsIn address s) store.out

-- so many addresses in a row are free from there on
abbrev pub HasRoom : Store → ℕ → ℕ → Type 0
HasRoom store start bytes =
    (address : ℕ) → start ≤ address → address < start + bytes → IsFree store address

-- the address before, if there is one, isn't free
abbrev pub IsFront : Store → ℕ → Type 0
IsFront store start = (before : ℕ) → before + 1 ≡ start → ¬ IsFree store before

-- a hole, which is a range of free addresses that goes on as far as it can, begins there and holds so many
pub record HoleHolds (store : Store) (start bytes : ℕ) : Type 0 where
  pub front : IsFront store start
  pub room : HasRoom store start bytes

-- there begins the first hole that holds so many addresses
pub record IsFirstFit (store : Store) (bytes start : ℕ) : Type 0 where
  pub holds : HoleHolds store start bytes
  pub first : (other : ℕ) → HoleHolds store other bytes → start ≤ other

-- 96 places are out, or no hole holds so many addresses
abbrev pub IsFull : Store → ℕ → Type 0
IsFull store bytes = (length store.out ≡ 96) ⊎ ((start : ℕ) → ¬ HoleHolds store start bytes)
