-- Whether a comment is ended, one byte at a time.
use Rattle.std.specs.Prelude.{◌≡◌, ℕ, ◌≤◌, Bool, false, ◌&&◌, ◌||◌, List, [], ◌∷◌, length, drop, ◌==◌, Option, Some, None}
use Rattle.css_lexemes.specs.Source.{begins_with, unspliced, bytes_of}

-- The bytes of a text without its splices.
abbrev pub plain_bytes : List ℕ → List ℕ
plain_bytes text = bytes_of (unspliced 0 0 text)

-- `*/` stands somewhere, or `/` in front where a `*` stands before.
abbrev pub has_end : (star : Bool) → List ℕ → Bool
has_end star [] = false
has_end star (b ∷ text) = (star && (b == 47)) || has_end (b == 42) text

-- The next byte behind a place is this one, and what is left stands behind it; or it is another one, or none.
abbrev pub IsBehind : (text : List ℕ) (from byte : ℕ) → Option ℕ → Type 0
IsBehind text from byte None = begins_with (byte ∷ []) (plain_bytes (drop from text)) ≡ false
IsBehind text from byte (Some at) = (plain_bytes (drop from text) ≡ byte ∷ plain_bytes (drop at text)) × (at ≤ length text)
