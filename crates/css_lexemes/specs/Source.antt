-- Translation phase 2 (C99 5.1.1.2): line splices are taken out of the text, and each other byte keeps its place.
use Rattle.std.specs.Prelude.{ℕ, zero, suc, ◌+◌, Bool, List, [], ◌∷◌, map, codes, nat_eq, if◌then◌else◌}
use Rattle.std.specs.List.{starts_with}
use Rattle.css_lexemes.specs.declared.source.SourceByte.{SourceByte}

-- The text begins with these bytes.
abbrev pub begins_with : List ℕ → List ℕ → Bool
begins_with bytes text = starts_with nat_eq text bytes

-- The length of the splice that the text begins with, 0 where it begins with none. A splice is a backslash directly
-- before a newline; a carriage return between the two belongs to it.
abbrev pub splice_length : List ℕ → ℕ
splice_length text =
    if begins_with (codes "\\\n") text then 2
    else (if begins_with (codes "\\\r\n") text then 3 else 0)

-- The bytes of a text without its splices, each with its place. The text stands at `place`, and its first `spliced` bytes
-- belong to a splice.
abbrev pub unspliced : (place spliced : ℕ) (text : List ℕ) → List SourceByte
unspliced place spliced [] = []
unspliced place (suc spliced) (b ∷ text) = unspliced (place + 1) spliced text
unspliced place zero (b ∷ text) =
    elim (splice_length (b ∷ text)) [
      | zero ↦ record { byte = b; place = place } ∷ unspliced (place + 1) 0 text
      | suc n ↦ unspliced (place + 1) n text
    ]

-- The bytes alone.
abbrev pub bytes_of : List SourceByte → List ℕ
bytes_of bytes = map (λ b. b.byte) bytes
