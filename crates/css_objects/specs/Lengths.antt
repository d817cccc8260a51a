-- Kept versions that are as long as their windows.
use Rattle.std.specs.Prelude.{◌≡◌, ◌<◌, ℕ, List, [], ◌∷◌, length, All, IfSome}
use Rattle.css_semantics.specs.Tasks.{window_length}
use Rattle.css_record.specs.Windows.{window}
use Rattle.css_objects.specs.declared.version.Held.{Held}
use Rattle.css_objects.specs.declared.version.Held.TheVariants as held
use Rattle.css_objects.specs.declared.pending.Version.{Version}
use Rattle.css_objects.specs.declared.pending.Version.TheVariants as lent
use Rattle.css_objects.specs.Table.{Entry}
use Rattle.css_objects.specs.Versions.{left_by}
use Rattle.css_objects.specs.Naming.{Given}
use Rattle.css_objects.specs.Current.{Kept}

-- where the bytes of a version are there, they are so many
abbrev pub IsOfLength : (count : ℕ) → Held → Type 0
IsOfLength count (held.Made task out) = Unit {0}
IsOfLength count (held.Kept bytes by) = length bytes ≡ count

-- the same of a version that is lent
abbrev pub IsLentOfLength : (count : ℕ) → Version → Type 0
IsLentOfLength count (lent.Made task out) = Unit {0}
IsLentOfLength count (lent.Kept bytes) = length bytes.now ≡ count

-- each version whose bytes are there is as long as its window
abbrev pub AreLong : List Entry → Type 0
AreLong es = All (λ e. IsOfLength (window_length (window e.window)) e.version) es

-- each copy of bytes is as long as its window
abbrev pub AreCopiesLong : List Given → Type 0
AreCopiesLong gs = All (λ g. IfSome g.snapshot (λ bytes. length bytes ≡ window_length (window g.window))) gs

-- the first of some bytes are so many, if a task makes the version
abbrev pub IsFirstOfLength : (count : ℕ) → Held → (kept : List (List ℕ)) → Type 0
IsFirstOfLength count (held.Made task out) [] = Unit {0}
IsFirstOfLength count (held.Made task out) (bytes ∷ kept) = length bytes ≡ count
IsFirstOfLength count (held.Kept bytes by) kept = Unit {0}

-- bytes that come in the places of the versions that tasks make are as long as their windows
abbrev pub AreKeptLong : List Entry → (kept : List (List ℕ)) → Type 0
AreKeptLong [] kept = Unit {0}
AreKeptLong (e ∷ es) kept = IsFirstOfLength (window_length (window e.window)) e.version kept × AreKeptLong es (left_by e.version kept)

-- the value of a version is so long, if it is kept
abbrev pub IsValueOfLength : Kept → (count : ℕ) → Held → Type 0
IsValueOfLength k count (held.Made task out) = task < k.first → length (k.value task out) ≡ count
IsValueOfLength k count (held.Kept bytes by) = Unit {0}

-- the values that are kept are as long as their windows
abbrev pub AreValuesLong : Kept → List Entry → Type 0
AreValuesLong k es = All (λ e. IsValueOfLength k (window_length (window e.window)) e.version) es
