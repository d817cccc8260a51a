-- What program a text spells, and how a text is refused.
use Rattle.std.specs.Prelude.{◌≡◌, ℕ, List, Some, None}
use Rattle.css_base.specs.declared.static_fault.StaticFault.{StaticFault}
use Rattle.css_base.specs.declared.static_fault.StaticName.TheVariants as names
use Rattle.css_base.specs.declared.static_fault.FrontFault.{FrontFault}
use Rattle.css_base.specs.declared.static_fault.FrontFault.TheVariants as faults
use Rattle.css_base.specs.Tokens.{Lexeme}
use Rattle.css_lex.specs.Lexing as lexing
use Rattle.css_lex.specs.Lexing.{SpellsTokens}
use Rattle.css_tree.specs.Syntax.{Tree}
use Rattle.css_parse.specs.Refusals as parsing
use Rattle.css_parse.specs.Refusals.{IsAccepted}
use Rattle.css_small.specs.Tree.{Program}
use Rattle.css_small.specs.Trees.{program_of}

-- The text spells tokens, these a tree, and the tree is this program of the small language.
pub record Spells (text : List ℕ) (p : Program) : Type 0 where
  pub tokens : List Lexeme
  pub tree : Tree
  pub lexed : SpellsTokens text tokens
  pub parsed : IsAccepted tokens tree
  pub small : program_of tree ≡ Some p

-- S0 with line 1
abbrev pub not_built : StaticFault
not_built = record { name = names.NotBuilt; line = 1 }

-- The text is refused with this fault: by the lexer (S1; S2, S3, S4 and S12 by place), or else its tokens are by the parser (S15, then
-- S6, then S5), or else its tree isn't of the small language (S0).
pub data IsRefused (text : List ℕ) (fault : StaticFault) : Type 0 where
  Unlexed : lexing.IsRefused text fault → IsRefused text fault
  Unparsed : (tokens : List Lexeme) → SpellsTokens text tokens → parsing.IsRefused tokens fault → IsRefused text fault
  NotSmall : (tokens : List Lexeme) (tree : Tree) → SpellsTokens text tokens → IsAccepted tokens tree → program_of tree ≡ None
      → fault ≡ not_built → IsRefused text fault

-- A static fault comes only where the text is refused so.
abbrev pub IfRefused : List ℕ → FrontFault → Type 0
IfRefused text (faults.Static fault) = IsRefused text fault
IfRefused text faults.NoMemory = Unit {0}
