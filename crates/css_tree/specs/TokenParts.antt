-- Tokens part by part, as a production lists them.
use Rattle.std.specs.Prelude.{◌≡◌, ℕ, List, [], ◌∷◌, ◌++◌, map}
use Rattle.css_base.specs.Tokens.{Kind, Word, Punctuator, Lexeme, At}

abbrev pub kind_at : Lexeme → Kind
kind_at (At kind line place end) = kind

abbrev pub line_of : Lexeme → ℕ
line_of (At kind line place end) = line

abbrev pub kinds : List Lexeme → List Kind
kinds ts = map kind_at ts

-- the line of the first of some tokens
abbrev pub first_line : List Lexeme → ℕ
first_line [] = 0
first_line (t ∷ ts) = line_of t

-- the line of the last of some tokens
abbrev pub last_line : List Lexeme → ℕ
last_line [] = 0
last_line (t ∷ []) = line_of t
last_line (t ∷ u ∷ ts) = last_line (u ∷ ts)

-- a part of some tokens: one token of a kind, or these tokens
pub data Part : Type 0 where
  One : (kind : Kind) → Part
  These : (ts : List Lexeme) → Part

-- a punctuator, and a word, as a part
abbrev pub mark : List ℕ → Part
mark bytes = One (Punctuator bytes)

abbrev pub word : List ℕ → Part
word bytes = One (Word bytes)

-- The tokens are these parts, one behind another.
abbrev pub Are : List Lexeme → List Part → Type 0
Are ts [] = ts ≡ []
Are ts (These us ∷ []) = ts ≡ us
Are ts (These us ∷ part ∷ parts) = (rest : List Lexeme) × (ts ≡ us ++ rest) × Are rest (part ∷ parts)
Are ts (One kind ∷ parts) = (token : Lexeme) × (rest : List Lexeme) × (ts ≡ token ∷ rest) × (kind_at token ≡ kind) × Are rest parts
