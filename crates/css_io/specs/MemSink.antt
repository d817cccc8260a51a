-- A sink in memory.
use Rattle.std.specs.Prelude.{ℕ, ◌≡◌, ◌⊎◌, List, length, Contains}

-- the bytes written, the room for them, the number of the next call, the calls that fail, and the count of faults
pub record SinkInMemory : Type 0 where
  pub written : List ℕ
  pub room : ℕ
  pub next : ℕ
  pub failing : List ℕ
  pub faults : ℕ

-- the next call fails: it is listed, or the room is full
abbrev pub NextFails : SinkInMemory → Type 0
NextFails sink = Contains sink.failing sink.next ⊎ (length sink.written ≡ sink.room)
