use Rattle.std.proofs.Common.{◌≡◌, ◌⊎◌, inl, inr, ℕ, List, Option, Some, None, refl}
use Rattle.css_base.specs.declared.static_fault.StaticFault.{StaticFault}
use Rattle.css_base.specs.Tokens.{Lexeme}
use Rattle.css_lex.specs.Lexing as lexing
use Rattle.css_lex.specs.Lexing.{SpellsTokens}
use Rattle.css_tree.specs.Syntax.{Tree}
use Rattle.css_parse.specs.Refusals as parsing
use Rattle.css_parse.specs.Refusals.{IsAccepted}
use Rattle.css_small.specs.Tree.{Program}
use Rattle.css_small.specs.Trees.{program_of}
use Rattle.css_small.specs.Texts.{Spells, IsRefused, Unlexed, Unparsed, NotSmall, not_built}
use Rattle.css_small.proofs.front.never_neither.Goals as goal

module _ (text : List ℕ) (none : (p : Program) → Spells text p → ⊥) (no_fault : (f : StaticFault) → IsRefused text f → ⊥) where
  by_program : (tokens : List Lexeme) (tree : Tree) → SpellsTokens text tokens → IsAccepted tokens tree → (found : Option Program) → program_of tree ≡ found → ⊥
  by_program tokens tree lexed parsed None is = no_fault not_built (NotSmall tokens tree lexed parsed is refl)
  by_program tokens tree lexed parsed (Some p) is = none p (record { tokens = tokens; tree = tree; lexed = lexed; parsed = parsed; small = is })

  by_tokens : ((tokens : List Lexeme) → ((tree : Tree) → IsAccepted tokens tree → ⊥) → ((f : StaticFault) → parsing.IsRefused tokens f → ⊥) → ⊥)
      → ((tokens : List Lexeme) × SpellsTokens text tokens) ⊎ ((f : StaticFault) × lexing.IsRefused text f) → ⊥
  by_tokens parsed (inl (tokens, lexed)) =
      parsed tokens (λ tree accepted. by_program tokens tree lexed accepted (program_of tree) refl) (λ f refused. no_fault f (Unparsed tokens lexed refused))
  by_tokens parsed (inr (f, refused)) = no_fault f (Unlexed refused)

pub returns : goal.returns
returns c text none no_fault = by_tokens text none no_fault c.never_neither.ensures (c.lexed_or_refused.ensures text)
