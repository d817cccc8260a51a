-- Sources in memory.
use Rattle.std.specs.Prelude.{ℕ, List}

-- the bytes left and the number of bytes taken
pub record Reading : Type 0 where
  pub left : List ℕ
  pub taken : ℕ

-- the bytes left, the number of bytes taken, the number of the next call, the calls that fail, and the count of faults
pub record SourceInMemory : Type 0 where
  pub left : List ℕ
  pub taken : ℕ
  pub next : ℕ
  pub failing : List ℕ
  pub faults : ℕ
