-- What replaces the words of a line.
use Rattle.std.specs.Prelude.{◌≡◌, ℕ, List, ◌∷◌, map, length, flat_map, sum_by}
use Rattle.css_base.specs.Tokens.{Lexeme, At}
use Rattle.css_lex.specs.declared.breach.Breach.{Breach}
use Rattle.css_macros.specs.Macros.{Table, replacement, replacement_names}
use Rattle.css_lex.specs.Costs.{Cost}

-- The tokens that replace a word, each with the word's line and range.
abbrev pub replaced_word : Table → Lexeme → List Lexeme
replaced_word table (At kind line place end) = map (λ k. At k line place end) (replacement table kind)

abbrev pub expanded : Table → List Lexeme → List Lexeme
expanded table words = flat_map (replaced_word table) words

-- How many tokens a word gives, and how many names are replaced there.
abbrev pub word_cost : Table → Lexeme → Cost
word_cost table (At kind line place end) = record { place = place; tokens = length (replacement table kind); names = replacement_names table kind }

abbrev pub word_costs : Table → List Lexeme → List Cost
word_costs table words = map (word_cost table) words

abbrev pub tokens_among : List Cost → ℕ
tokens_among costs = sum_by (λ c. c.tokens) costs

abbrev pub names_among : List Cost → ℕ
names_among costs = sum_by (λ c. c.names) costs

-- The breach is the first of a list.
abbrev pub IsHead : Breach → List Breach → Type 0
IsHead b breaches = (others : List Breach) × (breaches ≡ b ∷ others)
