-- Versions that tasks make, and the bytes that come in their places.
use Rattle.std.specs.Prelude.{ℕ, List, [], ◌∷◌, map, drop, Some}
use Rattle.css_record.specs.declared.version.VersionName.{VersionName}
use Rattle.css_record.specs.declared.version.VersionName.TheVariants as names
use Rattle.css_objects.specs.declared.version.Held.{Held}
use Rattle.css_objects.specs.declared.version.Held.TheVariants as held
use Rattle.css_objects.specs.Table.{Entry}

abbrev pub versions : List Entry → List Held
versions es = map (λ e. e.version) es

-- the names of those that tasks make, in order
abbrev pub made_in : List Held → List VersionName
made_in [] = []
made_in (held.Made task out ∷ versions) = names.Made task out ∷ made_in versions
made_in (held.Kept bytes by ∷ versions) = made_in versions

-- a version that a task makes, with the first of some bytes in its place: who made it stays
abbrev pub kept_first : Held → (kept : List (List ℕ)) → Held
kept_first (held.Made task out) [] = held.Made task out
kept_first (held.Made task out) (bytes ∷ kept) = held.Kept bytes (Some task)
kept_first (held.Kept bytes by) kept = held.Kept bytes by

-- what is left of the bytes
abbrev pub left_by : Held → (kept : List (List ℕ)) → List (List ℕ)
left_by (held.Made task out) kept = drop 1 kept
left_by (held.Kept bytes by) kept = kept

-- the same of all versions, one after another
abbrev pub kept_in : List Held → (kept : List (List ℕ)) → List Held
kept_in [] kept = []
kept_in (v ∷ versions) kept = kept_first v kept ∷ kept_in versions (left_by v kept)

abbrev pub left_in : List Held → (kept : List (List ℕ)) → List (List ℕ)
left_in [] kept = kept
left_in (v ∷ versions) kept = left_in versions (left_by v kept)
