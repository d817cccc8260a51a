-- The kinds of logical lines (C99 6.10), by the line's bytes without comments.
use Rattle.std.specs.Prelude.{ℕ, Bool, ◌&&◌, ◌||◌, List, [], ◌∷◌, length, drop, take_while, codes, bytes_eq, nat_le, ◌==◌, if◌then◌else◌}
use Rattle.css_lexemes.specs.declared.line_kind.LineKind.{LineKind}
use Rattle.css_lexemes.specs.declared.line_kind.LineKind.TheVariants as kinds
use Rattle.css_lexemes.specs.Source.{begins_with}

-- White space: bytes 9 to 13 and space.
abbrev pub is_blank : ℕ → Bool
is_blank b = (nat_le 9 b && nat_le b 13) || (b == 32)

abbrev pub is_digit : ℕ → Bool
is_digit b = nat_le 48 b && nat_le b 57

-- A letter or an underscore (C99 6.4.2.1).
abbrev pub is_nondigit : ℕ → Bool
is_nondigit b = (nat_le 65 b && nat_le b 90) || ((nat_le 97 b && nat_le b 122) || (b == 95))

-- A byte that may stand in an identifier behind its first one (C99 6.4.2.1).
abbrev pub is_word_byte : ℕ → Bool
is_word_byte b = is_nondigit b || is_digit b

-- The letters, underscores and digits that the text begins with.
abbrev pub first_word : List ℕ → List ℕ
first_word text = take_while is_word_byte text

-- The text behind the white space that it begins with.
abbrev pub behind_blanks : List ℕ → List ℕ
behind_blanks text = drop (length (take_while is_blank text)) text

-- A pragma, by what stands behind the word: a directive where the next word is `css`.
abbrev pub pragma_kind : List ℕ → LineKind
pragma_kind text = if bytes_eq (first_word (behind_blanks text)) (codes "css") then kinds.Css else kinds.Pragma

-- The kind of a `#` line, by what stands behind the `#` and white space.
abbrev pub directive_kind : List ℕ → LineKind
directive_kind [] = kinds.Null
directive_kind (b ∷ text) =
    let word = first_word (b ∷ text) in
    if bytes_eq word (codes "include") then kinds.Include
    else (if bytes_eq word (codes "define") then kinds.Define
    else (if bytes_eq word (codes "undef") then kinds.Undef
    else (if bytes_eq word (codes "pragma") then pragma_kind (drop (length word) (b ∷ text)) else kinds.Unknown)))

-- The kind of a line: a `#` line is one whose first byte behind white space is `#`.
abbrev pub line_kind : List ℕ → LineKind
line_kind line =
    let body = behind_blanks line in
    if begins_with (codes "#") body then directive_kind (behind_blanks (drop 1 body)) else kinds.Text
