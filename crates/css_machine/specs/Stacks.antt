-- The cells of all activations that are open: each activation's stand above its caller's.
use Rattle.std.specs.Prelude.{ℕ, List, length, take, drop, reverse}

-- the cells of the innermost activation, the topmost first, and those below them, the lowest first; and for how many there is room
pub record Parted : Type 0 where
  pub own : List ℕ
  pub below : List ℕ
  pub capacity : ℕ

-- of places for cells, those up to a top are taken, and the innermost activation's begin at a floor
abbrev pub parted : (floor top : ℕ) (cells : List ℕ) → Parted
parted floor top cells = record { own = reverse (drop floor (take top cells)); below = take floor cells; capacity = length cells }
