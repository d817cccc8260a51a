-- The words that make a type, at the front of some tokens.
use Rattle.std.specs.Prelude.{◌≡◌, ℕ, ◌<◌, List, [], ◌∷◌, length, codes, Bool, true, false, Option, Some, None, find, bytes_eq, if◌then◌else◌, is_some}
use Rattle.css_base.specs.Tokens.{Kind, Word, Punctuator, Lexeme}
use Rattle.css_tree.specs.declared.scope.Scope.{Scope}
use Rattle.css_tree.specs.declared.scope.Scope.TheVariants as scopes
use Rattle.css_tree.specs.declared.words.Specifier.{Specifier}
use Rattle.css_tree.specs.declared.words.Specifier.TheVariants as specifiers
use Rattle.css_tree.specs.declared.words.Qualifier.{Qualifier}
use Rattle.css_tree.specs.declared.words.Qualifier.TheVariants as qualifiers
use Rattle.css_tree.specs.Syntax.{Stars}
use Rattle.css_tree.specs.TokenParts.{kind_at}
use Rattle.css_tree.specs.Words.{specifier_text, qualifier_text}
use Rattle.css_parse.specs.Fronts.{Next}

-- ---- specifiers

abbrev pub block_specifiers : List Specifier
block_specifiers =
    specifiers.Void ∷ specifiers.Char ∷ specifiers.Short ∷ specifiers.Int ∷ specifiers.Long ∷ specifiers.Signed ∷ specifiers.Unsigned
    ∷ specifiers.Auto ∷ specifiers.Const ∷ specifiers.Inline ∷ specifiers.Register ∷ specifiers.Restrict ∷ specifiers.Volatile ∷ []

unfoldable pub block_specifier : List ℕ → Option Specifier
block_specifier bytes = find (λ s. bytes_eq (specifier_text s) bytes) block_specifiers

unfoldable pub file_specifier : List ℕ → Option Specifier
file_specifier bytes = if bytes_eq bytes (codes "static") then Some specifiers.Static else block_specifier bytes

-- the specifier that these bytes spell
abbrev pub specifier_spelled : Scope → List ℕ → Option Specifier
specifier_spelled scopes.File bytes = file_specifier bytes
specifier_spelled scopes.Block bytes = block_specifier bytes

-- the specifier that a token is
abbrev pub specifier_of : Scope → Kind → Option Specifier
specifier_of scope (Word bytes) = specifier_spelled scope bytes
specifier_of scope _ = None

-- the specifier that is next
abbrev pub next_specifier : Scope → List Lexeme → Option Specifier
next_specifier scope [] = None
next_specifier scope (t ∷ ts) = specifier_of scope (kind_at t)

-- a specifier is next, and the rest follows
pub record IsSpecifierAt (scope : Scope) (ts : List Lexeme) (s : Specifier) (rest : List Lexeme) : Type 0 where
  pub token : Lexeme
  pub parts : ts ≡ token ∷ rest
  pub is : specifier_of scope (kind_at token) ≡ Some s

-- specifiers, as long as they go on, and the tokens behind them
abbrev pub TakesSpecifiers : Scope → List Lexeme → List Specifier → List Lexeme → Type 0
TakesSpecifiers scope ts [] rest = (ts ≡ rest) × (next_specifier scope ts ≡ None)
TakesSpecifiers scope ts (s ∷ all) rest =
    (behind : List Lexeme) × IsSpecifierAt scope ts s behind × TakesSpecifiers scope behind all rest

-- one or more of them
pub record ReadsSpecifiers (scope : Scope) (ts : List Lexeme) (all : List Specifier) (rest : List Lexeme) : Type 0 where
  pub some : 0 < length all
  pub takes : TakesSpecifiers scope ts all rest

-- ---- stars

abbrev pub all_qualifiers : List Qualifier
all_qualifiers = qualifiers.Const ∷ qualifiers.Volatile ∷ qualifiers.Restrict ∷ []

unfoldable pub qualifier_spelled : List ℕ → Option Qualifier
qualifier_spelled bytes = find (λ q. bytes_eq (qualifier_text q) bytes) all_qualifiers

-- the qualifier that a token is
abbrev pub qualifier_of : Kind → Option Qualifier
qualifier_of (Word bytes) = qualifier_spelled bytes
qualifier_of _ = None

abbrev pub next_qualifier : List Lexeme → Option Qualifier
next_qualifier [] = None
next_qualifier (t ∷ ts) = qualifier_of (kind_at t)

-- a qualifier is next, and the rest follows
pub record IsQualifierAt (ts : List Lexeme) (q : Qualifier) (rest : List Lexeme) : Type 0 where
  pub token : Lexeme
  pub parts : ts ≡ token ∷ rest
  pub is : qualifier_of (kind_at token) ≡ Some q

-- qualifiers, as long as they go on, and the tokens behind them
abbrev pub TakesQualifiers : List Lexeme → List Qualifier → List Lexeme → Type 0
TakesQualifiers ts [] rest = (ts ≡ rest) × (next_qualifier ts ≡ None)
TakesQualifiers ts (q ∷ all) rest =
    (behind : List Lexeme) × IsQualifierAt ts q behind × TakesQualifiers behind all rest

-- stars with their qualifiers, as long as they go on, and the tokens behind them
abbrev pub ReadsStars : List Lexeme → Stars → List Lexeme → Type 0
ReadsStars ts [] rest = (ts ≡ rest) × ((behind : List Lexeme) → Next (Punctuator (codes "*")) ts behind → ⊥)
ReadsStars ts (star ∷ stars) rest =
    (behind : List Lexeme) × (next : List Lexeme) × Next (Punctuator (codes "*")) ts behind × TakesQualifiers behind star next × ReadsStars next stars rest
