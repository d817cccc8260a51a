-- Strings that are joined one token at a time.
use Rattle.std.specs.Prelude.{◌≡◌, ◌⊎◌, ℕ, List, [], ◌∷◌, ◌++◌}
use Rattle.css_base.specs.Tokens.{Kind, Lexeme, Text}
use Rattle.css_base.specs.Tokens.{kind_of}
use Rattle.css_lex.specs.declared.joining.Glued.{Glued}
use Rattle.css_lex.specs.declared.joining.Glued.TheVariants as glued
use Rattle.css_lex.specs.Spelling.{join}

-- A token behind others, as one with the string before it where both are strings.
abbrev pub joined_behind : List Lexeme → Lexeme → List Lexeme
joined_behind [] token = token ∷ []
joined_behind (first ∷ []) token = join first (token ∷ [])
joined_behind (first ∷ second ∷ tokens) token = first ∷ joined_behind (second ∷ tokens) token

-- A token is no string.
abbrev pub IsNoText : Kind → Type 0
IsNoText (Text bytes) = ⊥
IsNoText _ = Unit {0}

-- What two tokens next to each other are: one string, or themselves where they aren't two strings.
abbrev pub IsGlued : (first second : Kind) → Glued → Type 0
IsGlued first second (glued.One kind) =
    (front : List ℕ) × (back : List ℕ) × (first ≡ Text front) × (second ≡ Text back) × (kind_of kind ≡ Text (front ++ back))
IsGlued first second (glued.Two a b) = (kind_of a ≡ first) × (kind_of b ≡ second) × (IsNoText first ⊎ IsNoText second)
