-- Tokens without their directives: what a text spells once its directives are erased.
use Rattle.std.specs.Prelude.{◌≡◌, ℕ, Bool, true, false, not, IsTrue, List, ◌∷◌, ◌++◌, All, map, filter}
use Rattle.css_base.specs.Tokens.{Kind, Lexeme, At, Directive, Text}
use Rattle.css_lex.specs.Lexing.{SpellsTokens}
use Rattle.css_lexemes.specs.Lines.{erased}

abbrev pub is_directive_kind : Kind → Bool
is_directive_kind (Directive words) = true
is_directive_kind _ = false

abbrev pub is_directive : Lexeme → Bool
is_directive (At kind line place end) = is_directive_kind kind

abbrev pub is_string_kind : Kind → Bool
is_string_kind (Text bytes) = true
is_string_kind _ = false

abbrev pub is_string : Lexeme → Bool
is_string (At kind line place end) = is_string_kind kind

-- The tokens that aren't directives.
abbrev pub without_directives : List Lexeme → List Lexeme
without_directives tokens = filter (λ t. not (is_directive t)) tokens

-- What a token is and its line, whatever range of the text it has.
abbrev pub kind_and_line : Lexeme → Kind × ℕ
kind_and_line (At kind line place end) = (kind, line)

abbrev pub kinds_and_lines : List Lexeme → List (Kind × ℕ)
kinds_and_lines tokens = map kind_and_line tokens

-- Two strings stand among the tokens with directives alone between them.
pub record HasPartedStrings (tokens : List Lexeme) : Type 0 where
  pub front : List Lexeme
  pub first : Lexeme
  pub between : List Lexeme
  pub second : Lexeme
  pub back : List Lexeme
  pub parts : tokens ≡ front ++ first ∷ (between ++ second ∷ back)
  pub strings : IsTrue (is_string first) × IsTrue (is_string second)
  pub directives : All (λ t. IsTrue (is_directive t)) between

-- The text without its directives spells tokens of the kinds and lines that these have without theirs.
pub record SpellsTheOthers (text : List ℕ) (tokens : List Lexeme) : Type 0 where
  pub others : List Lexeme
  pub spelled : SpellsTokens (erased text) others
  pub same : kinds_and_lines others ≡ kinds_and_lines (without_directives tokens)
