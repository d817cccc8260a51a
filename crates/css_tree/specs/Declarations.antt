-- Which tokens spell which declaration (C99 6.7).
--   declaration := specs decls ";"
--   decls       := decl { "," decl }
--   decl        := stars name { "[" [ cond ] "]" } [ "=" init ]
--   init        := assign | STRING | "{" init { "," init } [ "," ] "}"
use Rattle.std.specs.Prelude.{◌≡◌, ℕ, ◌⊎◌, List, [], ◌∷◌, codes, Option, Some, None}
use Rattle.css_base.specs.Tokens as tokens
use Rattle.css_base.specs.Tokens.{Lexeme}
use Rattle.css_tree.specs.declared.scope.Scope.{Scope}
use Rattle.css_tree.specs.Syntax.{Expression, Dimensions, Initialiser, Value, String, Braces, Initialisers, NoParts, MoreParts, Declarator, Declaration}
use Rattle.css_tree.specs.TokenParts.{One, These, mark, word, Are, first_line}
use Rattle.css_tree.specs.Words.{IsName, SpellsSpecifiers, SpellsStars}
use Rattle.css_tree.specs.Expressions.{assign, cond, SpellsExpression}

-- ---- lists

-- { "," part }
abbrev pub SpellsBehindCommas : {A : Type 0} → (List Lexeme → A → Type 0) → List Lexeme → List A → Type 0
SpellsBehindCommas Spells ts [] = ts ≡ []
SpellsBehindCommas Spells ts (x ∷ xs) =
    (us : List Lexeme) × (vs : List Lexeme) × Are ts (mark (codes ",") ∷ These us ∷ These vs ∷ []) × Spells us x × SpellsBehindCommas Spells vs xs

-- part { "," part }
abbrev pub SpellsBetweenCommas : {A : Type 0} → (List Lexeme → A → Type 0) → List Lexeme → List A → Type 0
SpellsBetweenCommas Spells ts [] = ⊥
SpellsBetweenCommas Spells ts (x ∷ xs) =
    (us : List Lexeme) × (vs : List Lexeme) × Are ts (These us ∷ These vs ∷ []) × Spells us x × SpellsBehindCommas Spells vs xs

-- an expression of a level that may be left out
abbrev pub SpellsOptional : Scope → ℕ → List Lexeme → Option Expression → Type 0
SpellsOptional scope level ts None = ts ≡ []
SpellsOptional scope level ts (Some e) = SpellsExpression scope level ts e

-- ---- declarators

-- { "[" [ cond ] "]" }
abbrev pub SpellsDimensions : Scope → List Lexeme → Dimensions → Type 0
SpellsDimensions scope ts [] = ts ≡ []
SpellsDimensions scope ts (size ∷ sizes) =
    (us : List Lexeme) × (vs : List Lexeme) × Are ts (mark (codes "[") ∷ These us ∷ mark (codes "]") ∷ These vs ∷ [])
    × SpellsOptional scope cond us size × SpellsDimensions scope vs sizes

-- a string, and nothing else
abbrev pub IsStringAlone : List Lexeme → Type 0
IsStringAlone ts = (bytes : List ℕ) × Are ts (One (tokens.Text bytes) ∷ [])

-- [ "," ]
abbrev pub IsOptionalComma : List Lexeme → Type 0
IsOptionalComma ts = (ts ≡ []) ⊎ Are ts (mark (codes ",") ∷ [])

-- A string alone is the second form, and no assign.
abbrev mutual
  pub SpellsInitialiser : Scope → List Lexeme → Initialiser → Type 0
  SpellsInitialiser scope ts (Value e) = SpellsExpression scope assign ts e × ¬ IsStringAlone ts
  SpellsInitialiser scope ts (String line bytes) = Are ts (One (tokens.Text bytes) ∷ []) × (first_line ts ≡ line)
  SpellsInitialiser scope ts (Braces line parts) =
      (us : List Lexeme) × (vs : List Lexeme) × Are ts (mark (codes "{") ∷ These us ∷ These vs ∷ mark (codes "}") ∷ [])
      × (first_line ts ≡ line) × SpellsParts scope us parts × IsOptionalComma vs

  -- init { "," init }
  pub SpellsParts : Scope → List Lexeme → Initialisers → Type 0
  SpellsParts scope ts NoParts = ⊥
  SpellsParts scope ts (MoreParts first others) =
      (us : List Lexeme) × (vs : List Lexeme) × Are ts (These us ∷ These vs ∷ []) × SpellsInitialiser scope us first × SpellsFurtherParts scope vs others

  -- { "," init }
  pub SpellsFurtherParts : Scope → List Lexeme → Initialisers → Type 0
  SpellsFurtherParts scope ts NoParts = ts ≡ []
  SpellsFurtherParts scope ts (MoreParts first others) =
      (us : List Lexeme) × (vs : List Lexeme) × Are ts (mark (codes ",") ∷ These us ∷ These vs ∷ [])
      × SpellsInitialiser scope us first × SpellsFurtherParts scope vs others

-- [ "=" init ]
abbrev pub SpellsInitial : Scope → List Lexeme → Option Initialiser → Type 0
SpellsInitial scope ts None = ts ≡ []
SpellsInitial scope ts (Some initialiser) =
    (us : List Lexeme) × Are ts (mark (codes "=") ∷ These us ∷ []) × SpellsInitialiser scope us initialiser

pub record SpellsDeclarator (scope : Scope) (ts : List Lexeme) (d : Declarator) : Type 0 where
  pub stars : List Lexeme
  pub dimensions : List Lexeme
  pub initial : List Lexeme
  pub parts : Are ts (These stars ∷ word d.name ∷ These dimensions ∷ These initial ∷ [])
  pub line_is : first_line ts ≡ d.line
  pub spells_stars : SpellsStars stars d.stars
  pub named : IsName d.name
  pub spells_dimensions : SpellsDimensions scope dimensions d.dimensions
  pub spells_initial : SpellsInitial scope initial d.initialiser

-- ---- declarations

pub record SpellsDeclaration (scope : Scope) (ts : List Lexeme) (d : Declaration) : Type 0 where
  pub specifiers : List Lexeme
  pub declarators : List Lexeme
  pub parts : Are ts (These specifiers ∷ These declarators ∷ mark (codes ";") ∷ [])
  pub line_is : first_line ts ≡ d.line
  pub spells_specifiers : SpellsSpecifiers scope specifiers d.specifiers
  pub spells_declarators : SpellsBetweenCommas (SpellsDeclarator scope) declarators d.declarators
