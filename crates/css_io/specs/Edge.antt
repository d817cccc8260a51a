-- An object of the outside, with what is counted at it.
use Rattle.std.specs.Prelude.{ℕ}

-- a writer or a runtime, and the count of faults
pub record Counted (T : Type 0) : Type 0 where
  pub inner : T
  pub faults : ℕ

-- a reader, the number of bytes taken from it, and the count of faults
pub record CountedReader (T : Type 0) : Type 0 where
  pub inner : T
  pub taken : ℕ
  pub faults : ℕ
