-- Which tokens are refused, and how.
use Rattle.std.specs.Prelude.{◌≡◌, ◌⊎◌, ℕ, ◌<◌, ◌≤◌, List, [], ◌∷◌, ◌++◌, length, Option, Some, None}
use Rattle.css_base.specs.Tokens.{Lexeme}
use Rattle.css_base.specs.declared.static_fault.FrontFault.{FrontFault}
use Rattle.css_base.specs.declared.static_fault.FrontFault.TheVariants as faults
use Rattle.css_base.specs.declared.static_fault.StaticFault.{StaticFault}
use Rattle.css_base.specs.declared.static_fault.StaticName.TheVariants as names
use Rattle.css_tree.specs.Syntax.{Tree}
use Rattle.css_tree.specs.TokenParts.{line_of}
use Rattle.css_tree.specs.Brackets.{IsShallow, left_open}
use Rattle.css_tree.specs.Heights.{height_of_tree}
use Rattle.css_tree.specs.Items.{SpellsProgram}
use Rattle.css_parse.specs.Unsupported.{unsupported_lines, first}

-- The tokens spell a tree of at most 500 levels.
pub record Spells (ts : List Lexeme) (tree : Tree) : Type 0 where
  pub spelled : SpellsProgram ts tree
  pub low : height_of_tree tree ≤ 500

-- The token behind a shallow front opens the 201st bracket, and stands in this line.
pub record IsTooDeepAt (ts : List Lexeme) (line : ℕ) : Type 0 where
  pub front : List Lexeme
  pub token : Lexeme
  pub rest : List Lexeme
  pub parts : ts ≡ front ++ token ∷ rest
  pub shallow : IsShallow front
  pub deep : 200 < left_open 0 (front ++ token ∷ [])
  pub line_is : line ≡ line_of token

-- The token behind the longest front that spells a tree stands in this line.
pub record IsUnspelledAt (ts : List Lexeme) (line : ℕ) : Type 0 where
  pub front : List Lexeme
  pub token : Lexeme
  pub rest : List Lexeme
  pub parts : ts ≡ front ++ token ∷ rest
  pub tree : Tree
  pub spells : Spells front tree
  pub longest : (more behind : List Lexeme) (other : Tree) → ts ≡ more ++ behind → Spells more other → length more ≤ length front
  pub line_is : line ≡ line_of token

-- Unsupported keywords (S15) come first, then brackets (S6), then the grammar (S5).
abbrev pub IsRefused : List Lexeme → StaticFault → Type 0
IsRefused ts fault =
    ((fault.name ≡ names.Unsupported) × (first (unsupported_lines ts) ≡ Some fault.line))
    ⊎ (((fault.name ≡ names.TooDeep) × (unsupported_lines ts ≡ []) × IsTooDeepAt ts fault.line)
    ⊎ ((fault.name ≡ names.Syntax) × (unsupported_lines ts ≡ []) × IsShallow ts × IsUnspelledAt ts fault.line))

-- The tokens pass all three.
pub record IsAccepted (ts : List Lexeme) (tree : Tree) : Type 0 where
  pub supported : unsupported_lines ts ≡ []
  pub shallow : IsShallow ts
  pub spells : Spells ts tree

-- A static fault comes only where the tokens are refused so.
abbrev pub IfRefused : List Lexeme → FrontFault → Type 0
IfRefused ts (faults.Static fault) = IsRefused ts fault
IfRefused ts faults.NoMemory = Unit {0}

-- A static fault is S5 at the place.
abbrev pub IfUnspelled : List Lexeme → FrontFault → Type 0
IfUnspelled ts (faults.Static fault) = (fault.name ≡ names.Syntax) × IsUnspelledAt ts fault.line
IfUnspelled ts faults.NoMemory = Unit {0}
