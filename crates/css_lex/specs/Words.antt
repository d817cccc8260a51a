-- The words of a line: the tokens that its pieces spell before macros are replaced, up to the first piece that spells none.
use Rattle.std.specs.Prelude.{◌≡◌, ℕ, ◌+◌, ◌-◌, ◌<◌, Bool, not, ◌&&◌, ◌==◌, List, [], ◌∷◌, length, drop, slice_index, slice_range, Option, Some, None, option_map, if◌then◌else◌}
use Rattle.css_base.specs.Tokens.{Lexeme, At}
use Rattle.css_base.specs.declared.static_fault.StaticName.TheVariants as names
use Rattle.css_lex.specs.declared.breach.Breach.{Breach}
use Rattle.css_lexemes.specs.declared.pieces.Shape.{Shape}
use Rattle.css_lexemes.specs.declared.source.SourceByte.{SourceByte}
use Rattle.css_lexemes.specs.Source.{bytes_of}
use Rattle.css_lexemes.specs.Lexemes.{Piece}
use Rattle.css_lexemes.specs.Longest.{shape_at, size_at}
use Rattle.css_lex.specs.Reading.{is_blank_piece, kind_of_piece, place_of, end_of}
use Rattle.css_lex.specs.Spelling.{line_at}
use Rattle.css_lex.specs.Refusals.{breach, is_stray}

-- The line of each byte of a text.
pub record IsNumbered (text numbers : List ℕ) : Type 0 where
  pub whole : length numbers ≡ length text
  pub each : (place : ℕ) → place < length text → slice_index numbers place ≡ line_at text place

-- The bytes of a line from one index up to another, as a piece.
abbrev pub piece_in : (line : List SourceByte) (shape : Shape) (from to : ℕ) → Piece
piece_in line shape from to = record { shape = shape; bytes = slice_range line from to }

-- A line has a piece of this shape from one index up to another.
pub record IsPieceAt (line : List SourceByte) (shape : Shape) (from to : ℕ) : Type 0 where
  pub shape_is : shape ≡ shape_at (bytes_of (drop from line))
  pub to_is : to ≡ from + size_at (bytes_of (drop from line))
  pub inside : from < length line

-- The token that a piece spells.
abbrev pub word_of : (text : List ℕ) → Piece → Option Lexeme
word_of text p = option_map (λ kind. At kind (line_at text (place_of p)) (place_of p) (end_of p)) (kind_of_piece p)

-- The rule that a piece breaks that spells no token.
abbrev pub own_breach : Piece → Breach
own_breach p = breach (if is_stray p.shape then names.BadToken else names.BadConstant) (place_of p)

abbrev pub words_of : (text : List ℕ) → List Piece → List Lexeme
words_of text [] = []
words_of text (p ∷ pieces) = elim (word_of text p) [ None ↦ [] | Some word ↦ word ∷ words_of text pieces ]

abbrev pub failure_of : List Piece → Option Breach
failure_of [] = None
failure_of (p ∷ pieces) = elim (kind_of_piece p) [ None ↦ Some (own_breach p) | Some kind ↦ failure_of pieces ]

-- Whether a piece is read where so many solid pieces are still passed over.
abbrev pub is_kept : (skip : ℕ) → Shape → Bool
is_kept skip shape = (skip == 0) && not (is_blank_piece shape)

-- How many are still passed over behind a piece.
abbrev pub skip_behind : (skip : ℕ) → Shape → ℕ
skip_behind skip shape = if is_blank_piece shape then skip else skip - 1
