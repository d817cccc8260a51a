-- A text as logical lines and their pieces, and what each line does to the macros that are defined behind it.
use Rattle.std.specs.Prelude.{◌≡◌, ℕ, ◌+◌, Bool, true, false, not, ◌&&◌, List, [], ◌∷◌, map, drop, slice_index, filter, filter_map, All, codes, Option, Some, None, if◌then◌else◌}
use Rattle.css_base.specs.Tokens.{Kind}
use Rattle.css_lexemes.specs.declared.lexeme_class.LexemeClass.TheVariants as classes
use Rattle.css_lexemes.specs.declared.line_kind.LineKind.{LineKind}
use Rattle.css_lexemes.specs.declared.line_kind.LineKind.TheVariants as kinds
use Rattle.css_lexemes.specs.declared.pieces.Shape.{Shape}
use Rattle.css_lexemes.specs.declared.pieces.Shape.TheVariants as shapes
use Rattle.css_lexemes.specs.declared.source.SourceByte.{SourceByte}
use Rattle.css_lexemes.specs.Source.{begins_with, bytes_of}
use Rattle.css_lexemes.specs.Lines.{LogicalLine, logical_lines, kind_of_line}
use Rattle.css_lexemes.specs.Lexemes.{Piece, ConsistsOf}
use Rattle.css_lexemes.specs.Values.{kind_of_lexeme}
use Rattle.css_macros.specs.Macros.{Table, may_define, defined, undefined}

-- A logical line and its pieces.
pub record ReadLine : Type 0 where
  pub line : LogicalLine
  pub pieces : List Piece

-- The text consists of these lines, and each line of its pieces.
abbrev pub Reads : (text : List ℕ) (lines : List ReadLine) → Type 0
Reads text lines = (map (λ r. r.line) lines ≡ logical_lines text) × All (λ r. ConsistsOf r.line.bytes r.pieces) lines

abbrev pub is_blank_piece : Shape → Bool
is_blank_piece shapes.Blank = true
is_blank_piece _ = false

abbrev pub is_identifier : Shape → Bool
is_identifier (shapes.Lexeme classes.Identifier) = true
is_identifier _ = false

-- The pieces that aren't white space.
abbrev pub solid : List Piece → List Piece
solid pieces = filter (λ p. not (is_blank_piece p.shape)) pieces

-- The pieces behind the white space in front, and behind the first piece that is none.
abbrev pub from_solid : List Piece → List Piece
from_solid [] = []
from_solid (p ∷ pieces) = if is_blank_piece p.shape then from_solid pieces else p ∷ pieces

abbrev pub behind_first : List Piece → List Piece
behind_first pieces = drop 1 (from_solid pieces)

-- What a piece stands for: none where it is no lexeme, or its lexeme is out of range or form.
abbrev pub kind_in : Shape → List ℕ → Option Kind
kind_in (shapes.Lexeme class) bytes = kind_of_lexeme class bytes
kind_in _ bytes = None

abbrev pub kind_of_piece : Piece → Option Kind
kind_of_piece p = kind_in p.shape (bytes_of p.bytes)

-- A piece's place, and the place behind it.
abbrev pub place_of : Piece → ℕ
place_of p = slice_index (map (λ b. b.place) p.bytes) 0

abbrev pub last_place : List SourceByte → ℕ
last_place [] = 0
last_place (b ∷ []) = b.place
last_place (b ∷ c ∷ bytes) = last_place (c ∷ bytes)

abbrev pub end_of : Piece → ℕ
end_of p = last_place p.bytes + 1

-- The place of the first one of some pieces, and the place behind the last one.
abbrev pub first_place : List Piece → ℕ
first_place pieces = slice_index (map place_of pieces) 0

abbrev pub last_end : List Piece → ℕ
last_end [] = 0
last_end (p ∷ []) = end_of p
last_end (p ∷ q ∷ pieces) = last_end (q ∷ pieces)

-- What a `#define` says: a name, and the pieces that stand for it.
pub record Definition : Type 0 where
  pub name : List ℕ
  pub body : List Piece

abbrev pub first_bytes : List Piece → List SourceByte
first_bytes [] = []
first_bytes (p ∷ pieces) = p.bytes

-- Behind `#` and `define` stands a name, and no parenthesis directly behind it (C99 6.10.3 paragraph 10).
abbrev pub definition_at : List Piece → Option Definition
definition_at [] = None
definition_at (p ∷ pieces) =
    if is_identifier p.shape && not (begins_with (codes "(") (bytes_of (first_bytes pieces)))
    then Some (record { name = bytes_of p.bytes; body = solid pieces }) else None

abbrev pub definition_of : List Piece → Option Definition
definition_of pieces = definition_at (from_solid (behind_first (behind_first pieces)))

-- Behind `#` and `undef` stands a name and no more (C99 6.10.3.5).
abbrev pub undefined_at : List Piece → Option (List ℕ)
undefined_at (p ∷ []) = if is_identifier p.shape then Some (bytes_of p.bytes) else None
undefined_at _ = None

abbrev pub undefined_of : List Piece → Option (List ℕ)
undefined_of pieces = undefined_at (solid (behind_first (behind_first pieces)))

-- The macros behind a line.
abbrev pub with_definition : Table → Option Definition → Table
with_definition table None = table
with_definition table (Some d) =
    let tokens = filter_map kind_of_piece d.body in
    if may_define table d.name tokens then defined table d.name tokens else table

abbrev pub without_name : Table → Option (List ℕ) → Table
without_name table None = table
without_name table (Some name) = undefined table name

abbrev pub table_by : LineKind → Table → List Piece → Table
table_by kinds.Define table pieces = with_definition table (definition_of pieces)
table_by kinds.Undef table pieces = without_name table (undefined_of pieces)
table_by _ table pieces = table

abbrev pub table_behind : Table → ReadLine → Table
table_behind table r = table_by (kind_of_line r.line) table r.pieces

-- The pieces of a line that are read as tokens: all of a text line, the words of a directive behind `#`, `pragma` and `css`,
-- and what stands behind `#` and `define`.
abbrev pub read_by : LineKind → List Piece → List Piece
read_by kinds.Text pieces = pieces
read_by kinds.Css pieces = drop 3 pieces
read_by kinds.Define pieces = drop 2 pieces
read_by _ pieces = []

abbrev pub read_pieces : ReadLine → List Piece
read_pieces r = read_by (kind_of_line r.line) (solid r.pieces)
