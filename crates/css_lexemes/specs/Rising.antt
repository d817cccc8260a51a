-- Bytes in order of their places.
use Rattle.std.specs.Prelude.{ℕ, ◌+◌, ◌<◌, ◌≤◌, List, [], ◌∷◌}
use Rattle.css_lexemes.specs.declared.source.SourceByte.{SourceByte}

-- The places rise from `low` on, and stay below `high`.
abbrev pub AreBetween : (low high : ℕ) → List SourceByte → Type 0
AreBetween low high [] = low ≤ high
AreBetween low high (c ∷ bytes) = (low ≤ c.place) × (c.place < high) × AreBetween (c.place + 1) high bytes
