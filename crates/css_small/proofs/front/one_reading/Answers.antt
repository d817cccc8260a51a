use Rattle.std.proofs.Common.{◌≡◌, ℕ, List, Some, subst, sym, ◌∙◌}
use Rattle.css_base.specs.declared.static_fault.StaticFault.{StaticFault}
use Rattle.css_base.specs.Tokens.{Lexeme}
use Rattle.css_lex.specs.Lexing as lexing
use Rattle.css_lex.specs.Lexing.{SpellsTokens}
use Rattle.css_tree.specs.Syntax.{Tree}
use Rattle.css_parse.specs.Refusals as parsing
use Rattle.css_parse.specs.Refusals.{IsAccepted}
use Rattle.css_small.specs.Tree.{Program}
use Rattle.css_small.specs.Trees.{program_of}
use Rattle.css_small.specs.Texts.{Spells, IsRefused, Unlexed, Unparsed, NotSmall}
use Rattle.css_small.proofs.front.one_reading.Goals as goal

-- a text's tokens are one list, and then it isn't refused by the lexer
record IsLexedOnce : Type 0 where
  tokens : (text : List ℕ) (these those : List Lexeme) → SpellsTokens text these → SpellsTokens text those → these ≡ those
  faults : (text : List ℕ) (f g : StaticFault) → lexing.IsRefused text f → lexing.IsRefused text g → f ≡ g
  apart : (text : List ℕ) (tokens : List Lexeme) (f : StaticFault) → SpellsTokens text tokens → lexing.IsRefused text f → ⊥

-- tokens spell one tree, and then they aren't refused
record IsParsedOnce : Type 0 where
  trees : (tokens : List Lexeme) (t u : Tree) → parsing.Spells tokens t → parsing.Spells tokens u → t ≡ u
  faults : (tokens : List Lexeme) (f g : StaticFault) → parsing.IsRefused tokens f → parsing.IsRefused tokens g → f ≡ g
  apart : (tokens : List Lexeme) (tree : Tree) (f : StaticFault) → IsAccepted tokens tree → parsing.IsRefused tokens f → ⊥

module _ (lexed : IsLexedOnce) (parsed : IsParsedOnce) (text : List ℕ) where
  -- what holds of the one list of tokens
  moved : (P : List Lexeme → Type 0) (these those : List Lexeme) → SpellsTokens text these → SpellsTokens text those → P these → P those
  moved P these those s t = subst P (lexed.tokens text these those s t)

  same_tree : (these those : List Lexeme) (t u : Tree) → SpellsTokens text these → SpellsTokens text those → IsAccepted these t → IsAccepted those u → t ≡ u
  same_tree these those t u s r a b =
      let moved_a = moved (λ ts. IsAccepted ts t) these those s r a in
      parsed.trees those t u moved_a.spells b.spells

  accepted_apart : (these those : List Lexeme) (tree : Tree) (f : StaticFault) → SpellsTokens text these → SpellsTokens text those → IsAccepted these tree → parsing.IsRefused those f → ⊥
  accepted_apart these those tree f s r a b = parsed.apart those tree f (moved (λ ts. IsAccepted ts tree) these those s r a) b

  one_program : (p q : Program) → Spells text p → Spells text q → p ≡ q
  one_program p q s t =
      let same = same_tree s.tokens t.tokens s.tree t.tree s.lexed t.lexed s.parsed t.parsed in
      let small = subst (λ tree. program_of tree ≡ Some p) same s.small in
      let found = t.small in
      cc

  one_fault : (f g : StaticFault) → IsRefused text f → IsRefused text g → f ≡ g
  one_fault f g (Unlexed a) (Unlexed b) = lexed.faults text f g a b
  one_fault f g (Unlexed a) (Unparsed those s b) = absurd (lexed.apart text those f s a)
  one_fault f g (Unlexed a) (NotSmall those tree s b small is) = absurd (lexed.apart text those f s a)
  one_fault f g (Unparsed these s a) (Unlexed b) = absurd (lexed.apart text these g s b)
  one_fault f g (Unparsed these s a) (Unparsed those r b) = parsed.faults those f g (moved (λ ts. parsing.IsRefused ts f) these those s r a) b
  one_fault f g (Unparsed these s a) (NotSmall those tree r b small is) = absurd (accepted_apart those these tree f r s b a)
  one_fault f g (NotSmall these tree s a small is) (Unlexed b) = absurd (lexed.apart text these g s b)
  one_fault f g (NotSmall these tree s a small is) (Unparsed those r b) = absurd (accepted_apart these those tree g s r a b)
  one_fault f g (NotSmall these t s a small is) (NotSmall those u r b other same) = is ∙ sym same

  spelled_apart : (p : Program) (f : StaticFault) → Spells text p → IsRefused text f → ⊥
  spelled_apart p f s (Unlexed a) = lexed.apart text s.tokens f s.lexed a
  spelled_apart p f s (Unparsed those r b) = accepted_apart s.tokens those s.tree f s.lexed r s.parsed b
  spelled_apart p f s (NotSmall those tree r b small is) =
      let same = same_tree s.tokens those s.tree tree s.lexed r s.parsed b in
      let found = subst (λ t. program_of t ≡ Some p) same s.small in
      absurd cc

pub returns-clause-program : goal.returns-clause-program
returns-clause-program c text =
    one_program (record { tokens = c.one_lexing.ensures.tokens; faults = c.one_lexing.ensures.faults; apart = c.one_lexing.ensures.apart })
    (record { trees = c.one_tree.ensures; faults = c.one_refusal.ensures; apart = c.never_both.ensures }) text

pub returns-clause-fault : goal.returns-clause-fault
returns-clause-fault c text =
    one_fault (record { tokens = c.one_lexing.ensures.tokens; faults = c.one_lexing.ensures.faults; apart = c.one_lexing.ensures.apart })
    (record { trees = c.one_tree.ensures; faults = c.one_refusal.ensures; apart = c.never_both.ensures }) text

pub returns-clause-apart : goal.returns-clause-apart
returns-clause-apart c text =
    spelled_apart (record { tokens = c.one_lexing.ensures.tokens; faults = c.one_lexing.ensures.faults; apart = c.one_lexing.ensures.apart })
    (record { trees = c.one_tree.ensures; faults = c.one_refusal.ensures; apart = c.never_both.ensures }) text
