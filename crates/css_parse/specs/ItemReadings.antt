-- What is read outside blocks.
use Rattle.std.specs.Prelude.{◌≡◌, ℕ, ◌-◌, ◌<◌, List, [], ◌∷◌, length, take, codes, Option, Some, None}
use Rattle.css_base.specs.Tokens.{Word, Punctuator, Lexeme}
use Rattle.css_tree.specs.declared.scope.Scope.TheVariants as scopes
use Rattle.css_tree.specs.declared.words.Specifier.{Specifier}
use Rattle.css_tree.specs.Syntax.{Stars, Mark, Parameter, Parameters, Empty, VoidAlone, Listed, Body, Function, Item, Define, Declare, Tree}
use Rattle.css_tree.specs.TokenParts.{first_line, last_line}
use Rattle.css_parse.specs.Fronts.{Next}
use Rattle.css_parse.specs.Words.{ReadsSpecifiers, ReadsStars}
use Rattle.css_parse.specs.Readings.{ReadsDimensions, ReadsName, ReadsHead, ReadsDeclaration, ReadsMark, ReadsEntries}

-- ---- parameters

-- [ name ]
abbrev pub ReadsOptionalName : List Lexeme → Option (List ℕ) → List Lexeme → Type 0
ReadsOptionalName ts None rest = (ts ≡ rest) × ((name : List ℕ) (behind : List Lexeme) → ReadsName ts name behind → ⊥)
ReadsOptionalName ts (Some name) rest = ReadsName ts name rest

pub record ReadsParameter (most : ℕ) (ts : List Lexeme) (p : Parameter) (rest : List Lexeme) : Type 0 where
  pub behind : List Lexeme
  pub middle : List Lexeme
  pub next : List Lexeme
  pub line_is : first_line ts ≡ p.line
  pub reads_specifiers : ReadsSpecifiers scopes.File ts p.specifiers behind
  pub reads_stars : ReadsStars behind p.stars middle
  pub reads_name : ReadsOptionalName middle p.name next
  pub reads_dimensions : ReadsDimensions scopes.File most next p.dimensions rest

-- { "," param } ")"
abbrev pub ReadsFurtherParameters : ℕ → List Lexeme → List Parameter → List Lexeme → Type 0
ReadsFurtherParameters most ts [] rest = Next (Punctuator (codes ")")) ts rest
ReadsFurtherParameters most ts (p ∷ ps) rest =
    (behind : List Lexeme) × (next : List Lexeme) × Next (Punctuator (codes ",")) ts behind × ReadsParameter most behind p next
    × ReadsFurtherParameters most next ps rest

-- `void` and the parenthesis that closes
abbrev pub ReadsVoid : List Lexeme → List Lexeme → Type 0
ReadsVoid ts rest = (behind : List Lexeme) × Next (Word (codes "void")) ts behind × Next (Punctuator (codes ")")) behind rest

-- param { "," param } ")"
abbrev pub ReadsListed : ℕ → List Lexeme → List Parameter → List Lexeme → Type 0
ReadsListed most ts [] rest = ⊥
ReadsListed most ts (p ∷ ps) rest = (next : List Lexeme) × ReadsParameter most ts p next × ReadsFurtherParameters most next ps rest

-- params ")"
abbrev pub ReadsParameters : ℕ → List Lexeme → Parameters → List Lexeme → Type 0
ReadsParameters most ts Empty rest = Next (Punctuator (codes ")")) ts rest
ReadsParameters most ts VoidAlone rest = ReadsVoid ts rest
ReadsParameters most ts (Listed all) rest = ((behind : List Lexeme) → ReadsVoid ts behind → ⊥) × ReadsListed most ts all rest

-- ---- items

-- block | ";"
abbrev pub ReadsBody : ℕ → List Lexeme → Option Body → List Lexeme → Type 0
ReadsBody most ts None rest = Next (Punctuator (codes ";")) ts rest
ReadsBody most ts (Some body) rest =
    (inside : List Lexeme) × (0 < most) × Next (Punctuator (codes "{")) ts inside × (first_line ts ≡ body.line) × ReadsEntries (most - 1) inside body.entries rest

-- [ DIRECTIVE ]
abbrev pub ReadsOptionalMark : List Lexeme → Option Mark → List Lexeme → Type 0
ReadsOptionalMark ts None rest = (ts ≡ rest) × ((m : Mark) (behind : List Lexeme) → ReadsMark ts m behind → ⊥)
ReadsOptionalMark ts (Some m) rest = ReadsMark ts m rest

-- the words of an item up to its name, with the lines of the first word and of the token behind the specifiers
pub record ReadsFront (ts : List Lexeme) (line declared : ℕ) (words : List Specifier) (stars : Stars) (name : List ℕ) (rest : List Lexeme) : Type 0 where
  pub behind : List Lexeme
  pub line_is : first_line ts ≡ line
  pub declared_is : first_line behind ≡ declared
  pub reads_specifiers : ReadsSpecifiers scopes.File ts words behind
  pub reads_head : ReadsHead behind stars name rest

-- the tokens that were read, where the rest follows
abbrev pub read : List Lexeme → List Lexeme → List Lexeme
read ts rest = take (length ts - length rest) ts

pub record ReadsFunction (most : ℕ) (ts : List Lexeme) (f : Function) (rest : List Lexeme) : Type 0 where
  pub start : List Lexeme
  pub behind : List Lexeme
  pub middle : List Lexeme
  pub inside : List Lexeme
  pub next : List Lexeme
  pub reads_mark : ReadsOptionalMark ts f.directive start
  pub line_is : first_line start ≡ f.line
  pub reads_specifiers : ReadsSpecifiers scopes.File start f.specifiers behind
  pub reads_head : ReadsHead behind f.stars f.name middle
  pub opens : Next (Punctuator (codes "(")) middle inside
  pub reads_parameters : ReadsParameters most inside f.parameters next
  pub reads_body : ReadsBody most next f.body rest
  pub end_is : last_line (read ts rest) ≡ f.end

-- An item is one level.
abbrev pub ReadsItem : ℕ → List Lexeme → Item → List Lexeme → Type 0
ReadsItem most ts (Define f) rest = (0 < most) × ReadsFunction (most - 1) ts f rest
ReadsItem most ts (Declare d) rest = (0 < most) × ReadsDeclaration scopes.File (most - 1) ts d rest

-- Items as long as they are read, of at most 500 levels each.
abbrev pub ReadsItems : List Lexeme → Tree → List Lexeme → Type 0
ReadsItems ts [] rest = ts ≡ rest
ReadsItems ts (i ∷ is) rest = (next : List Lexeme) × ReadsItem 500 ts i next × ReadsItems next is rest
