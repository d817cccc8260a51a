-- The lexemes of a logical line (C99 6.4), longest first.
use Rattle.std.specs.Prelude.{◌≡◌, ◌≢◌, ℕ, Bool, false, not, ◌&&◌, ◌||◌, List, [], ◌∷◌, ◌++◌, All, Contains, IsTrue, codes, ◌==◌}
use Rattle.css_lexemes.specs.declared.lexeme_class.LexemeClass.{LexemeClass}
use Rattle.css_lexemes.specs.declared.lexeme_class.LexemeClass.TheVariants as classes
use Rattle.css_lexemes.specs.declared.pieces.Shape.{Shape}
use Rattle.css_lexemes.specs.declared.pieces.Shape.TheVariants as shapes
use Rattle.css_lexemes.specs.declared.source.SourceByte.{SourceByte}
use Rattle.css_lexemes.specs.Source.{bytes_of}
use Rattle.css_lexemes.specs.LineKinds.{is_blank, is_digit, is_nondigit, is_word_byte}

-- An identifier or keyword (C99 6.4.2.1): a letter or underscore, then letters, underscores and digits.
abbrev pub IsIdentifier : List ℕ → Type 0
IsIdentifier [] = ⊥
IsIdentifier (b ∷ bytes) = IsTrue (is_nondigit b) × All (λ c. IsTrue (is_word_byte c)) bytes

-- The letter of an exponent: `e`, `E`, `p` or `P`.
abbrev pub is_exponent : ℕ → Bool
is_exponent b = (b == 101) || ((b == 69) || ((b == 112) || (b == 80)))

-- Whether a byte may stand behind another one in a preprocessing number (C99 6.4.8): a sign only directly behind an
-- exponent's letter.
abbrev pub goes_on : (before b : ℕ) → Bool
goes_on before b = is_word_byte b || ((b == 46) || (((b == 43) || (b == 45)) && is_exponent before))

-- The bytes of a preprocessing number behind its first one.
abbrev pub IsNumberTail : (before : ℕ) → List ℕ → Type 0
IsNumberTail before [] = Unit {0}
IsNumberTail before (b ∷ bytes) = IsTrue (goes_on before b) × IsNumberTail b bytes

abbrev pub begins_with_digit : List ℕ → Bool
begins_with_digit [] = false
begins_with_digit (b ∷ bytes) = is_digit b

-- What a preprocessing number begins with: a digit, or a period and a digit.
abbrev pub begins_number : List ℕ → Bool
begins_number [] = false
begins_number (b ∷ bytes) = is_digit b || ((b == 46) && begins_with_digit bytes)

-- A preprocessing number (C99 6.4.8).
abbrev pub IsNumber : List ℕ → Type 0
IsNumber [] = ⊥
IsNumber (b ∷ bytes) = IsTrue (begins_number (b ∷ bytes)) × IsNumberTail b bytes

-- What may stand between two quotes: no newline, and a quote or a backslash only behind a backslash that takes its meaning.
abbrev pub IsBody : (quote : ℕ) (escaped : Bool) (bytes : List ℕ) → Type 0
IsBody quote escaped [] = escaped ≡ false
IsBody quote escaped (b ∷ bytes) =
    (b ≢ 10) × (escaped ≡ false → b ≢ quote) × IsBody quote ((b == 92) && not escaped) bytes

-- A body between two quotes, `'` for a character constant (C99 6.4.4.4) and `"` for a string (C99 6.4.5). A character
-- constant's number of characters is judged with its value.
abbrev pub IsConstant : (quote : ℕ) (bytes : List ℕ) → Type 0
IsConstant quote bytes = (body : List ℕ) × (bytes ≡ quote ∷ (body ++ quote ∷ [])) × IsBody quote false body

-- The punctuators (C99 6.4.6 without digraphs, `#` and `##`).
abbrev pub punctuators : List (List ℕ)
punctuators =
    codes "[" ∷ codes "]" ∷ codes "(" ∷ codes ")" ∷ codes "{" ∷ codes "}" ∷ codes "." ∷ codes "->" ∷ codes "++" ∷ codes "--"
    ∷ codes "&" ∷ codes "*" ∷ codes "+" ∷ codes "-" ∷ codes "~" ∷ codes "!" ∷ codes "/" ∷ codes "%" ∷ codes "<<" ∷ codes ">>"
    ∷ codes "<" ∷ codes ">" ∷ codes "<=" ∷ codes ">=" ∷ codes "==" ∷ codes "!=" ∷ codes "^" ∷ codes "|" ∷ codes "&&" ∷ codes "||"
    ∷ codes "?" ∷ codes ":" ∷ codes ";" ∷ codes "..." ∷ codes "=" ∷ codes "*=" ∷ codes "/=" ∷ codes "%=" ∷ codes "+=" ∷ codes "-="
    ∷ codes "<<=" ∷ codes ">>=" ∷ codes "&=" ∷ codes "^=" ∷ codes "|=" ∷ codes "," ∷ []

-- The spellings of a class.
abbrev pub IsOfClass : LexemeClass → List ℕ → Type 0
IsOfClass classes.Identifier bytes = IsIdentifier bytes
IsOfClass classes.Number bytes = IsNumber bytes
IsOfClass classes.Character bytes = IsConstant 39 bytes
IsOfClass classes.Text bytes = IsConstant 34 bytes
IsOfClass classes.Punctuator bytes = Contains punctuators bytes

-- What one lexeme's bytes may be.
abbrev pub IsLexeme : List ℕ → Type 0
IsLexeme bytes = (class : LexemeClass) × IsOfClass class bytes

-- No longer front of the line is a lexeme: `bytes` stand there, and `rest` behind them.
abbrev pub IsLongest : (bytes rest : List ℕ) → Type 0
IsLongest bytes rest = (more others : List ℕ) → rest ≡ more ++ others → IsLexeme (bytes ++ more) → more ≡ []

-- No front of these bytes is a lexeme.
abbrev pub IsNoFront : List ℕ → Type 0
IsNoFront bytes = (front others : List ℕ) → bytes ≡ front ++ others → IsLexeme front → ⊥

-- The shape of some bytes of a line with others behind them.
abbrev pub HasShape : Shape → (bytes rest : List ℕ) → Type 0
HasShape shapes.Blank bytes rest = (b : ℕ) × (bytes ≡ b ∷ []) × IsTrue (is_blank b)
HasShape (shapes.Lexeme class) bytes rest = IsOfClass class bytes × IsLongest bytes rest
HasShape shapes.Stray bytes rest = (b : ℕ) × (bytes ≡ b ∷ []) × (is_blank b ≡ false) × IsNoFront (b ∷ rest)

pub record Piece : Type 0 where
  pub shape : Shape
  pub bytes : List SourceByte

-- A line consists of these pieces.
abbrev pub ConsistsOf : List SourceByte → List Piece → Type 0
ConsistsOf line [] = line ≡ []
ConsistsOf line (piece ∷ pieces) =
    (rest : List SourceByte) × (line ≡ piece.bytes ++ rest)
    × HasShape piece.shape (bytes_of piece.bytes) (bytes_of rest) × ConsistsOf rest pieces
