-- What a line begins with, computed: the longest lexeme by its first bytes (C99 6.4 paragraph 4), and a line cut into pieces.
use Rattle.std.specs.Prelude.{ℕ, zero, suc, ◌+◌, ◌-◌, max, Bool, false, not, ◌&&◌, List, [], ◌∷◌, length, take, ◌==◌, if◌then◌else◌}
use Rattle.css_lexemes.specs.declared.lexeme_class.LexemeClass.{LexemeClass}
use Rattle.css_lexemes.specs.declared.lexeme_class.LexemeClass.TheVariants as classes
use Rattle.css_lexemes.specs.declared.pieces.Shape.{Shape}
use Rattle.css_lexemes.specs.declared.pieces.Shape.TheVariants as shapes
use Rattle.css_lexemes.specs.declared.source.SourceByte.{SourceByte}
use Rattle.css_lexemes.specs.Source.{begins_with, bytes_of}
use Rattle.css_lexemes.specs.LineKinds.{is_blank, is_nondigit, first_word}
use Rattle.css_lexemes.specs.Lexemes.{goes_on, begins_number, punctuators, Piece}

-- The class of a lexeme that a text may begin with.
abbrev pub class_at : List ℕ → LexemeClass
class_at [] = classes.Punctuator
class_at (b ∷ text) =
    if is_nondigit b then classes.Identifier
    else (if begins_number (b ∷ text) then classes.Number
    else (if b == 39 then classes.Character else (if b == 34 then classes.Text else classes.Punctuator)))

-- How many bytes of a text go on a preprocessing number.
abbrev pub tail_length : (before : ℕ) → List ℕ → ℕ
tail_length before [] = 0
tail_length before (b ∷ text) = if goes_on before b then 1 + tail_length b text else 0

-- So much more, where there is any.
abbrev pub more_of : (more n : ℕ) → ℕ
more_of more n = if n == 0 then 0 else more + n

-- The length of what is left of a constant up to its quote, 0 where the line ends first.
abbrev pub closed_length : (quote : ℕ) (escaped : Bool) (text : List ℕ) → ℕ
closed_length quote escaped [] = 0
closed_length quote escaped (b ∷ text) =
    if b == 10 then 0
    else (if (b == quote) && not escaped then 1 else more_of 1 (closed_length quote ((b == 92) && not escaped) text))

-- The length of the longest of some spellings that a text begins with, 0 where it begins with none.
abbrev pub longest_of : List (List ℕ) → (text : List ℕ) → ℕ
longest_of [] text = 0
longest_of (spelling ∷ others) text =
    max (if begins_with spelling text then length spelling else 0) (longest_of others text)

-- The length of the longest lexeme of a class that a text begins with, by the text's first byte and the others.
abbrev pub length_of_class : LexemeClass → (b : ℕ) (text : List ℕ) → ℕ
length_of_class classes.Identifier b text = 1 + length (first_word text)
length_of_class classes.Number b text = 1 + tail_length b text
length_of_class classes.Character b text = more_of 1 (closed_length 39 false text)
length_of_class classes.Text b text = more_of 1 (closed_length 34 false text)
length_of_class classes.Punctuator b text = longest_of punctuators (b ∷ text)

abbrev pub lexeme_length : List ℕ → ℕ
lexeme_length [] = 0
lexeme_length (b ∷ text) = length_of_class (class_at (b ∷ text)) b text

-- The shape and the size of the piece that a text begins with.
abbrev pub shape_at : List ℕ → Shape
shape_at [] = shapes.Stray
shape_at (b ∷ text) =
    if is_blank b then shapes.Blank
    else (if lexeme_length (b ∷ text) == 0 then shapes.Stray else shapes.Lexeme (class_at (b ∷ text)))

abbrev pub size_at : List ℕ → ℕ
size_at [] = 0
size_at (b ∷ text) = if is_blank b then 1 else max 1 (lexeme_length (b ∷ text))

-- The pieces of a line of which the first bytes belong to a piece.
abbrev pub pieces_from : (inside : ℕ) → List SourceByte → List Piece
pieces_from inside [] = []
pieces_from (suc inside) (c ∷ line) = pieces_from inside line
pieces_from zero (c ∷ line) =
    let size = size_at (bytes_of (c ∷ line)) in
    record { shape = shape_at (bytes_of (c ∷ line)); bytes = take size (c ∷ line) } ∷ pieces_from (size - 1) line

abbrev pub pieces_of : List SourceByte → List Piece
pieces_of line = pieces_from 0 line
