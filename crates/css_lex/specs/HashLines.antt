-- What stands behind the name of a `#define`.
use Rattle.std.specs.Prelude.{ℕ, Bool, false, List, [], ◌∷◌, codes, Option, Some, None}
use Rattle.css_base.specs.Tokens.{Kind, Word, Lexeme, At}
use Rattle.css_lex.specs.declared.breach.Breach.{Breach}
use Rattle.css_lexemes.specs.Source.{begins_with, bytes_of}
use Rattle.css_lexemes.specs.Lexemes.{Piece}
use Rattle.css_lex.specs.Reading.{first_bytes}

-- A parenthesis stands directly behind the first piece.
abbrev pub opens : List Piece → Bool
opens [] = false
opens (p ∷ pieces) = begins_with (codes "(") (bytes_of (first_bytes pieces))

-- The name that a token is.
abbrev pub word_name : Kind → Option (List ℕ)
word_name (Word name) = Some name
word_name _ = None

abbrev pub kind_at : Lexeme → Kind
kind_at (At kind line place end) = kind

-- The name that some words are.
abbrev pub only_name : List Lexeme → Option Breach → Option (List ℕ)
only_name (word ∷ []) None = word_name (kind_at word)
only_name _ _ = None

-- The name in front of words.
abbrev pub front_name : List Lexeme → Option (List ℕ)
front_name [] = None
front_name (word ∷ words) = word_name (kind_at word)

abbrev pub behind_name : List Lexeme → List Lexeme
behind_name [] = []
behind_name (word ∷ words) = words
