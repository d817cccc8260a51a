-- The places out of a local store.
use Rattle.std.specs.Prelude.{◌≡◌, ◌+◌, ◌<◌, ◌≤◌, ◌%◌, ℕ, List, length}
use Rattle.std.specs.Prelude.{All, AllPairs}
use Rattle.std.specs.Int.{next_multiple_of}
use Rattle.css_place.specs.declared.stretch.Stretch.{Stretch}

-- a local store: its size, and the places out of it in order of start
pub record Store : Type 0 where
  pub size : ℕ
  pub out : List Stretch

-- the least multiple of 128 at or above a length
abbrev pub rounded : ℕ → ℕ
rounded bytes = next_multiple_of bytes 128

-- the first address after a stretch
abbrev pub end_of : Stretch → ℕ
end_of s = s.start + s.length

-- the stretch starts at a multiple of 128, and its length is a positive multiple of 128
pub record IsAligned (s : Stretch) : Type 0 where
  pub start : s.start % 128 ≡ 0
  pub length : s.length % 128 ≡ 0
  pub positive : 0 < s.length

-- the size is a multiple of 128; the places out are aligned, and each ends before the next one starts,
-- so they are disjoint; they lie inside the size, and at most 96 are out
pub record IsPlaced (store : Store) : Type 0 where
  pub size : store.size % 128 ≡ 0
  pub aligned : All IsAligned store.out
  pub disjoint : AllPairs (λ s t. end_of s ≤ t.start) store.out
  pub inside : All (λ s. end_of s ≤ store.size) store.out
  pub few : length store.out ≤ 96
