-- Which tokens spell which program.
--   program := { item }
--   item    := [ DIRECTIVE ] specs stars name "(" params ")" ( block | ";" )
--            | specs decls ";"
--   params  := | "void" | param { "," param }
--   param   := specs stars [ name ] { "[" [ cond ] "]" }
use Rattle.std.specs.Prelude.{◌≡◌, ℕ, List, [], ◌∷◌, codes, Option, Some, None}
use Rattle.css_base.specs.Tokens.{Lexeme}
use Rattle.css_tree.specs.declared.scope.Scope.TheVariants as scopes
use Rattle.css_tree.specs.Syntax.{Mark, Parameter, Parameters, Empty, VoidAlone, Listed, Body, Function, Item, Define, Declare, Tree}
use Rattle.css_tree.specs.TokenParts.{These, mark, word, Are, first_line, last_line}
use Rattle.css_tree.specs.Words.{IsName, SpellsSpecifiers, SpellsStars}
use Rattle.css_tree.specs.Declarations.{SpellsBetweenCommas, SpellsDimensions, SpellsDeclaration}
use Rattle.css_tree.specs.Statements.{SpellsMark, SpellsBlock}

-- ---- parameters

-- [ name ]
abbrev pub SpellsOptionalName : List Lexeme → Option (List ℕ) → Type 0
SpellsOptionalName ts None = ts ≡ []
SpellsOptionalName ts (Some name) = Are ts (word name ∷ []) × IsName name

pub record SpellsParameter (ts : List Lexeme) (p : Parameter) : Type 0 where
  pub specifiers : List Lexeme
  pub stars : List Lexeme
  pub name : List Lexeme
  pub dimensions : List Lexeme
  pub parts : Are ts (These specifiers ∷ These stars ∷ These name ∷ These dimensions ∷ [])
  pub line_is : first_line ts ≡ p.line
  pub spells_specifiers : SpellsSpecifiers scopes.File specifiers p.specifiers
  pub spells_stars : SpellsStars stars p.stars
  pub spells_name : SpellsOptionalName name p.name
  pub spells_dimensions : SpellsDimensions scopes.File dimensions p.dimensions

-- `void` alone is the second form, and no param.
abbrev pub SpellsParameters : List Lexeme → Parameters → Type 0
SpellsParameters ts Empty = ts ≡ []
SpellsParameters ts VoidAlone = Are ts (word (codes "void") ∷ [])
SpellsParameters ts (Listed all) = SpellsBetweenCommas SpellsParameter ts all × ¬ Are ts (word (codes "void") ∷ [])

-- ---- items

-- [ DIRECTIVE ]
abbrev pub SpellsOptionalMark : List Lexeme → Option Mark → Type 0
SpellsOptionalMark ts None = ts ≡ []
SpellsOptionalMark ts (Some m) = SpellsMark ts m

-- block | ";"
abbrev pub SpellsBody : List Lexeme → Option Body → Type 0
SpellsBody ts None = Are ts (mark (codes ";") ∷ [])
SpellsBody ts (Some body) = SpellsBlock ts body.line body.entries

-- A function's line is that of its first word, also behind a directive, and its end is the line of its last token.
pub record SpellsFunction (ts : List Lexeme) (f : Function) : Type 0 where
  pub directive : List Lexeme
  pub rest : List Lexeme
  pub specifiers : List Lexeme
  pub stars : List Lexeme
  pub parameters : List Lexeme
  pub body : List Lexeme
  pub begins : Are ts (These directive ∷ These rest ∷ [])
  pub parts : Are rest (These specifiers ∷ These stars ∷ word f.name ∷ mark (codes "(") ∷ These parameters ∷ mark (codes ")") ∷ These body ∷ [])
  pub line_is : first_line rest ≡ f.line
  pub end_is : last_line ts ≡ f.end
  pub spells_directive : SpellsOptionalMark directive f.directive
  pub spells_specifiers : SpellsSpecifiers scopes.File specifiers f.specifiers
  pub spells_stars : SpellsStars stars f.stars
  pub named : IsName f.name
  pub spells_parameters : SpellsParameters parameters f.parameters
  pub spells_body : SpellsBody body f.body

abbrev pub SpellsItem : List Lexeme → Item → Type 0
SpellsItem ts (Define f) = SpellsFunction ts f
SpellsItem ts (Declare d) = SpellsDeclaration scopes.File ts d

-- ---- programs

abbrev pub SpellsProgram : List Lexeme → Tree → Type 0
SpellsProgram ts [] = ts ≡ []
SpellsProgram ts (i ∷ is) =
    (us : List Lexeme) × (vs : List Lexeme) × Are ts (These us ∷ These vs ∷ []) × SpellsItem us i × SpellsProgram vs is
