-- How long chains of tasks are in which each reads what the one before made.
use Rattle.std.specs.Prelude.{◌≡◌, ◌<◌, ◌≤◌, ◌⊎◌, ℕ, List, [], ◌∷◌, length, map, Contains, slice_index_or}

-- The tasks of a chain, the last first: each reads what the next one, an earlier task, made. Of each task, in order of numbers, there
-- are the numbers of those that made what it reads.
abbrev pub IsChain : (producers : List (List ℕ)) → List ℕ → Type 0
IsChain producers [] = Unit {0}
IsChain producers (n ∷ []) = n < length producers
IsChain producers (n ∷ p ∷ ps) = (p < n) × Contains (slice_index_or producers n []) p × IsChain producers (p ∷ ps)

-- The longest chain has so many tasks.
pub record IsDepth (producers : List (List ℕ)) (depth : ℕ) : Type 0 where
  pub chain : List ℕ
  pub is_chain : IsChain producers chain
  pub reached : length chain ≡ depth
  pub most : (other : List ℕ) → IsChain producers other → length other ≤ depth

-- ---- of single tasks

-- The longest chain that ends with a task has so many tasks.
pub record IsDepthAt (producers : List (List ℕ)) (n depth : ℕ) : Type 0 where
  pub others : List ℕ
  pub is_chain : IsChain producers (n ∷ others)
  pub reached : length (n ∷ others) ≡ depth
  pub most : (ps : List ℕ) → IsChain producers (n ∷ ps) → length (n ∷ ps) ≤ depth

-- The depths of the first tasks.
abbrev pub AreDepths : (producers : List (List ℕ)) → (depths : List ℕ) → Type 0
AreDepths producers depths = (n : ℕ) → n < length depths → IsDepthAt producers n (slice_index_or depths n 0)

-- ---- the greatest

-- The greatest of some numbers, or 0 where there is none.
pub record IsMost (numbers : List ℕ) (most : ℕ) : Type 0 where
  pub above : (k : ℕ) → k < length numbers → slice_index_or numbers k 0 ≤ most
  pub reached : (most ≡ 0) ⊎ ((k : ℕ) × (k < length numbers) × (slice_index_or numbers k 0 ≡ most))

-- the depths at some places, and 0 where there is none
abbrev pub depths_at : (depths places : List ℕ) → List ℕ
depths_at depths places = map (λ p. slice_index_or depths p 0) places
