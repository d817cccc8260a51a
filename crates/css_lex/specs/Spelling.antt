-- The tokens that a text spells.
use Rattle.std.specs.Prelude.{ℕ, ◌+◌, List, [], ◌∷◌, ◌++◌, map, take, flat_map, Some, None}
use Rattle.css_base.specs.Tokens.{Text, Directive, Lexeme, At, Lexemes, End, More}
use Rattle.css_lexemes.specs.declared.line_kind.LineKind.{LineKind}
use Rattle.css_lexemes.specs.declared.line_kind.LineKind.TheVariants as kinds
use Rattle.css_lexemes.specs.Lines.{kind_of_line, newlines}
use Rattle.css_lexemes.specs.Lexemes.{Piece}
use Rattle.css_macros.specs.Macros.{Table, replacement}
use Rattle.css_lex.specs.Reading.{ReadLine, solid, read_by, kind_of_piece, place_of, end_of, first_place, last_end}
use Rattle.css_lex.specs.Costs.{at_start, over_lines}

-- The line in which a place of the text lies, counted from 1.
abbrev pub line_at : (text : List ℕ) (place : ℕ) → ℕ
line_at text place = 1 + newlines (take place text)

-- The tokens of a piece: what replaces it, each with the piece's line and range.
abbrev pub tokens_of : (text : List ℕ) → Table → Piece → List Lexeme
tokens_of text table p =
    elim (kind_of_piece p) [
      | None ↦ []
      | Some kind ↦ map (λ k. At k (line_at text (place_of p)) (place_of p) (end_of p)) (replacement table kind)
    ]

-- A token in front of others: a string and the string behind it are one (C99 5.1.1.2 phase 6).
abbrev pub join : Lexeme → List Lexeme → List Lexeme
join (At (Text a) line place end) (At (Text b) next_line next_place next_end ∷ tokens) = At (Text (a ++ b)) line place next_end ∷ tokens
join token tokens = token ∷ tokens

abbrev pub joined : List Lexeme → List Lexeme
joined [] = []
joined (token ∷ tokens) = join token (joined tokens)

abbrev pub in_order : List Lexeme → Lexemes
in_order [] = End
in_order (token ∷ tokens) = More token (in_order tokens)

-- A directive with its words. Its range is from the `#` up to behind the last word.
abbrev pub directive : (text : List ℕ) (line words : List Piece) → Table → Lexeme
directive text line words table =
    At (Directive (in_order (joined (flat_map (tokens_of text table) words)))) (line_at text (first_place line)) (first_place line) (last_end line)

-- The tokens of a line's solid pieces.
abbrev pub tokens_by : LineKind → (text : List ℕ) → Table → List Piece → List Lexeme
tokens_by kinds.Text text table pieces = flat_map (tokens_of text table) (read_by kinds.Text pieces)
tokens_by kinds.Css text table pieces = directive text pieces (read_by kinds.Css pieces) table ∷ []
tokens_by _ text table pieces = []

abbrev pub tokens_of_line : (text : List ℕ) → Table → ReadLine → List Lexeme
tokens_of_line text table r = tokens_by (kind_of_line r.line) text table (solid r.pieces)

-- The tokens of a text that is read as these lines.
abbrev pub tokens_of_lines : (text : List ℕ) → List ReadLine → List Lexeme
tokens_of_lines text lines = joined (over_lines (λ state r. tokens_of_line text state.table r) at_start lines)
