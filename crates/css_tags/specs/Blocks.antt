-- Blocks of a local store.
use Rattle.std.specs.Prelude.{◌≡◌, ◌<◌, ◌≤◌, ◌^◌, ℕ, List, length}
use Rattle.css_place.specs.declared.stretch.Stretch.{Stretch}
use Rattle.css_place.specs.Places.{rounded}

-- a block: the place that it owns, and its bytes
pub record Contents : Type 0 where
  pub place : Stretch
  pub bytes : List ℕ

-- it has a byte, and its place is as long as its bytes rounded up to 128
pub record IsBlock (block : Contents) : Type 0 where
  pub least : 1 ≤ length block.bytes
  pub most : length block.bytes < 2 ^ 32
  pub placed : rounded (length block.bytes) ≡ block.place.length
