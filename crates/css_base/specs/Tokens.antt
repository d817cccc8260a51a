-- Tokens as plain data: what relations between text, tokens and trees speak of.
use Rattle.std.specs.Prelude.{ℕ, List, [], ◌∷◌, map}
use Rattle.css_base.specs.declared.int_type.IntType.{IntType}
use Rattle.css_base.specs.declared.token.Token.{Token}
use Rattle.css_base.specs.declared.token.TokenKind as code

-- what a token is, the token with its line and its range of the text, and the words of a directive
mutual
  pub data Kind : Type 0 where
    Word : (bytes : List ℕ) → Kind
    Number : (type : IntType) (value : ℕ) → Kind
    Character : (byte : ℕ) → Kind
    Text : (bytes : List ℕ) → Kind
    Punctuator : (bytes : List ℕ) → Kind
    Directive : (words : Lexemes) → Kind

  pub data Lexeme : Type 0 where
    At : (kind : Kind) (line place end : ℕ) → Lexeme

  pub data Lexemes : Type 0 where
    End : Lexemes
    More : (first : Lexeme) (others : Lexemes) → Lexemes

abbrev mutual
  pub kind_of : code.TokenKind → Kind
  kind_of (code.Word bytes) = Word bytes
  kind_of (code.Number type value) = Number type value
  kind_of (code.Character byte) = Character byte
  kind_of (code.Text bytes) = Text bytes
  kind_of (code.Punctuator bytes) = Punctuator bytes
  kind_of (code.Directive' shape words) = Directive (lexemes_of words)

  pub lexemes_of : {m : _} → code.Row_of-Token m → Lexemes
  lexemes_of code.end_of-Token = End
  lexemes_of (code.more_of-Token kind line place end words) = More (At (kind_of kind) line place end) (lexemes_of words)

-- a token as plain data
abbrev pub lexeme : Token → Lexeme
lexeme t = At (kind_of t.kind) t.line t.place t.end

abbrev pub lexemes : List Token → List Lexeme
lexemes ts = map lexeme ts
