-- Names, and the words that make a type.
--   specs    := one or more of: void char short int long signed unsigned,
--               auto const inline register restrict volatile, and outside blocks static
--   stars    := { "*" { "const" | "volatile" | "restrict" } }
--   typename := specs stars
use Rattle.std.specs.Prelude.{◌≡◌, ℕ, ◌<◌, List, [], ◌∷◌, ◌++◌, length, map, All, codes, Bool, false, bytes_eq}
use Rattle.std.specs.List.{list_any}
use Rattle.css_base.specs.Tokens.{Kind, Word, Punctuator, Lexeme}
use Rattle.css_tree.specs.declared.scope.Scope.{Scope}
use Rattle.css_tree.specs.declared.scope.Scope.TheVariants as scopes
use Rattle.css_tree.specs.declared.words.Specifier.{Specifier}
use Rattle.css_tree.specs.declared.words.Specifier.TheVariants as specifiers
use Rattle.css_tree.specs.declared.words.Qualifier.{Qualifier}
use Rattle.css_tree.specs.declared.words.Qualifier.TheVariants as qualifiers
use Rattle.css_tree.specs.Syntax.{Stars, TypeName}
use Rattle.css_tree.specs.TokenParts.{kinds, These, Are}

-- The keywords of C99 (6.4.1).
abbrev pub keywords : List (List ℕ)
keywords =
    codes "auto" ∷ codes "break" ∷ codes "case" ∷ codes "char" ∷ codes "const" ∷ codes "continue" ∷ codes "default" ∷ codes "do"
    ∷ codes "double" ∷ codes "else" ∷ codes "enum" ∷ codes "extern" ∷ codes "float" ∷ codes "for" ∷ codes "goto" ∷ codes "if"
    ∷ codes "inline" ∷ codes "int" ∷ codes "long" ∷ codes "register" ∷ codes "restrict" ∷ codes "return" ∷ codes "short"
    ∷ codes "signed" ∷ codes "sizeof" ∷ codes "static" ∷ codes "struct" ∷ codes "switch" ∷ codes "typedef" ∷ codes "union"
    ∷ codes "unsigned" ∷ codes "void" ∷ codes "volatile" ∷ codes "while" ∷ codes "_Bool" ∷ codes "_Complex" ∷ codes "_Imaginary" ∷ []

unfoldable pub is_keyword : List ℕ → Bool
is_keyword bytes = list_any (bytes_eq bytes) keywords

-- A name is a word that is no keyword.
abbrev pub IsName : List ℕ → Type 0
IsName bytes = is_keyword bytes ≡ false

abbrev pub specifier_text : Specifier → List ℕ
specifier_text specifiers.Void = codes "void"
specifier_text specifiers.Char = codes "char"
specifier_text specifiers.Short = codes "short"
specifier_text specifiers.Int = codes "int"
specifier_text specifiers.Long = codes "long"
specifier_text specifiers.Signed = codes "signed"
specifier_text specifiers.Unsigned = codes "unsigned"
specifier_text specifiers.Auto = codes "auto"
specifier_text specifiers.Const = codes "const"
specifier_text specifiers.Inline = codes "inline"
specifier_text specifiers.Register = codes "register"
specifier_text specifiers.Restrict = codes "restrict"
specifier_text specifiers.Volatile = codes "volatile"
specifier_text specifiers.Static = codes "static"

abbrev pub specifier_kind : Specifier → Kind
specifier_kind s = Word (specifier_text s)

-- In a block `static` isn't spelled.
abbrev pub IsAllowed : Scope → Specifier → Type 0
IsAllowed scopes.Block specifiers.Static = ⊥
IsAllowed scope s = Unit {0}

pub record SpellsSpecifiers (scope : Scope) (ts : List Lexeme) (all : List Specifier) : Type 0 where
  pub some : 0 < length all
  pub words : kinds ts ≡ map specifier_kind all
  pub allowed : All (IsAllowed scope) all

abbrev pub qualifier_text : Qualifier → List ℕ
qualifier_text qualifiers.Const = codes "const"
qualifier_text qualifiers.Volatile = codes "volatile"
qualifier_text qualifiers.Restrict = codes "restrict"

abbrev pub qualifier_kind : Qualifier → Kind
qualifier_kind q = Word (qualifier_text q)

abbrev pub stars_kinds : Stars → List Kind
stars_kinds [] = []
stars_kinds (star ∷ stars) = Punctuator (codes "*") ∷ map qualifier_kind star ++ stars_kinds stars

abbrev pub SpellsStars : List Lexeme → Stars → Type 0
SpellsStars ts stars = kinds ts ≡ stars_kinds stars

pub record SpellsTypeName (scope : Scope) (ts : List Lexeme) (type : TypeName) : Type 0 where
  pub front : List Lexeme
  pub back : List Lexeme
  pub parts : Are ts (These front ∷ These back ∷ [])
  pub specifiers : SpellsSpecifiers scope front type.specifiers
  pub stars : SpellsStars back type.stars
