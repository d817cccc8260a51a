-- Keywords that this profile of C leaves out.
use Rattle.std.specs.Prelude.{ℕ, List, [], ◌∷◌, ◌++◌, codes, Bool, Option, Some, None, if◌then◌else◌, bytes_eq}
use Rattle.std.specs.List.{list_any}
use Rattle.css_base.specs.Tokens.{Kind, Word, Directive, Lexeme, At, Lexemes, End, More}

abbrev pub unsupported : List (List ℕ)
unsupported =
    codes "_Bool" ∷ codes "_Complex" ∷ codes "_Imaginary" ∷ codes "case" ∷ codes "default" ∷ codes "double" ∷ codes "enum" ∷ codes "extern"
    ∷ codes "float" ∷ codes "goto" ∷ codes "struct" ∷ codes "switch" ∷ codes "typedef" ∷ codes "union" ∷ []

unfoldable pub is_unsupported : List ℕ → Bool
is_unsupported bytes = list_any (bytes_eq bytes) unsupported

-- the line of a word of this kind, where it is such a keyword
abbrev pub word_lines : Kind → ℕ → List ℕ
word_lines (Word bytes) line = if is_unsupported bytes then line ∷ [] else []
word_lines _ line = []

-- the lines of such keywords among the words of a directive
abbrev pub words_lines : Lexemes → List ℕ
words_lines End = []
words_lines (More (At kind line place end) others) = word_lines kind line ++ words_lines others

-- a directive's words are tokens too
abbrev pub token_lines : Lexeme → List ℕ
token_lines (At (Directive words) line place end) = words_lines words
token_lines (At kind line place end) = word_lines kind line

-- The lines of the unsupported keywords, in order of text.
abbrev pub unsupported_lines : List Lexeme → List ℕ
unsupported_lines [] = []
unsupported_lines (t ∷ ts) = token_lines t ++ unsupported_lines ts

-- the first of some lines
abbrev pub first : List ℕ → Option ℕ
first [] = None
first (line ∷ lines) = Some line
