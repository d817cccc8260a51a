-- Histories: lists of entries, each of which was made by the pass of some number.
use Rattle.std.specs.Prelude.{◌≡◌, ◌⊎◌, ℕ, ◌==◌, List, [], ◌∷◌, ◌++◌, length, All, nat_lt, if◌then◌else◌}
use Rattle.std.specs.List.{filter}

-- the entries that the pass of this number made, in order
abbrev pub entries_of : {E : Type 0} → (E → ℕ) → ℕ → List E → List E
entries_of maker n log = filter (λ e. maker e == n) log

-- of each of these passes, told by its number and its entries, the history has just these entries
abbrev pub AllMade : {E : Type 0} → (E → ℕ) → List E → List (ℕ × List E) → Type 0
AllMade {E} maker log passes = All (λ (p : ℕ × List E). entries_of maker p.0 log ≡ p.1) passes

-- the history goes on with one entry at most, of the pass of this number
abbrev pub AddsAtMostOne : {E : Type 0} → (E → ℕ) → ℕ → List E → List E → Type 0
AddsAtMostOne {E} maker n old new = (new ≡ old) ⊎ ((e : E) × (maker e ≡ n) × (new ≡ old ++ e ∷ []))

-- the longer list, and the first of two of one length
abbrev pub longer : {E : Type 0} → List E → List E → List E
longer xs ys = if nat_lt (length xs) (length ys) then ys else xs
