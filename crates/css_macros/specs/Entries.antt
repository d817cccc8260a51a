-- Entries of macros, each with its name's number.
use Rattle.std.specs.Prelude.{ℕ, Bool, true, ◌&&◌, List, map, Option, None, Some, option_map}
use Rattle.std.specs.List.{list_all}
use Rattle.css_macros.specs.Macros.{Macro, Table}
use Rattle.css_macros.specs.Numbers.{word_at, stands_for}
use Rattle.css_macros.specs.ListedTokens.{listed_kinds, is_listed}
use Rattle.css_macros.specs.declared.macros.Definition.{Definition}

abbrev pub macro_value : Definition → Macro
macro_value d = record { tokens = listed_kinds d.tokens.items; predefined = d.predefined }

-- The words of a macro's tokens have the numbers that stand beside them.
abbrev pub is_definition : List (List ℕ) → Option Definition → Bool
is_definition words None = true
is_definition words (Some d) = list_all (is_listed words) d.tokens.items

abbrev pub is_entry : List (List ℕ) → ℕ × Option Definition → Bool
is_entry words entry = stands_for words entry.0 (word_at words entry.0) && is_definition words entry.1

-- The entries with their names.
abbrev pub table_with : List (List ℕ) → List (ℕ × Option Definition) → Table
table_with words entries = map (λ e. (word_at words e.0, option_map macro_value e.1)) entries
