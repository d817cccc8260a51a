-- What a text is to the lexer: tokens, or a refusal.
use Rattle.std.specs.Prelude.{◌≡◌, ℕ, ◌<◌, ◌≤◌, ◌⊎◌, List, length, Some, None}
use Rattle.css_base.specs.declared.static_fault.StaticFault.{StaticFault}
use Rattle.css_base.specs.declared.static_fault.StaticName.TheVariants as names
use Rattle.css_base.specs.Tokens.{Lexeme}
use Rattle.css_lex.specs.Reading.{ReadLine, Reads}
use Rattle.css_lex.specs.Spelling.{tokens_of_lines}
use Rattle.css_lex.specs.Refusals.{refusal}

-- The most bytes of a text.
abbrev pub longest_text : ℕ
longest_text = 4194304

-- The text spells these tokens.
pub record SpellsTokens (text : List ℕ) (tokens : List Lexeme) : Type 0 where
  pub lines : List ReadLine
  pub short : length text ≤ longest_text
  pub reads : Reads text lines
  pub unbroken : refusal text lines ≡ None
  pub tokens_are : tokens ≡ tokens_of_lines text lines

-- A text that is short enough breaks this rule first.
pub record BreaksFirst (text : List ℕ) (fault : StaticFault) : Type 0 where
  pub lines : List ReadLine
  pub short : length text ≤ longest_text
  pub reads : Reads text lines
  pub broken : refusal text lines ≡ Some fault

-- The text is refused with this fault: it is too long, or breaks a rule.
abbrev pub IsRefused : (text : List ℕ) (fault : StaticFault) → Type 0
IsRefused text fault =
    ((longest_text < length text) × (fault ≡ record { name = names.TooLong; line = 1 })) ⊎ BreaksFirst text fault
