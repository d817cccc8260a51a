-- What a line does, by what is kept while a text is read.
use Rattle.std.specs.Prelude.{◌≡◌, ℕ, Bool, true, false, List, [], ◌++◌, map}
use Rattle.css_base.specs.Tokens.{lexemes}
use Rattle.css_lex.specs.declared.line.Brought.{Brought}
use Rattle.css_lexemes.specs.declared.line_kind.LineKind.{LineKind}
use Rattle.css_lexemes.specs.declared.line_kind.LineKind.TheVariants as kinds
use Rattle.css_lexemes.specs.declared.source.SourceByte.{SourceByte}
use Rattle.css_lexemes.specs.Lines.{LogicalLine, logical_lines}
use Rattle.css_lexemes.specs.Longest.{pieces_of}
use Rattle.css_macros.specs.MacroTables.{table_of}
use Rattle.css_lex.specs.Reading.{ReadLine}
use Rattle.css_lex.specs.Costs.{State, state_behind, at_start, over_lines}
use Rattle.css_lex.specs.Spelling.{tokens_of_line}
use Rattle.css_lex.specs.Refusals.{line_breaches, breaches}

-- The kinds of lines that are passed over.
abbrev pub passes : LineKind → Bool
passes kinds.Null = true
passes kinds.Include = true
passes kinds.Pragma = true
passes _ = false

abbrev pub state_of : Brought → State
state_of brought = record { table = table_of brought.macros; tokens = brought.counts.tokens; names = brought.counts.names }

-- A line that shows these bytes.
abbrev pub line_of : List SourceByte → ReadLine
line_of bytes = record { line = record { bytes = bytes; from = 0; to = 0 }; pieces = pieces_of bytes }

-- The line breaks no rule and is read.
pub record IsLexed (text : List ℕ) (line : List SourceByte) (old new : Brought) : Type 0 where
  pub unbroken : line_breaches text (state_of old) (line_of line) ≡ []
  pub state_is : state_of new ≡ state_behind (state_of old) (line_of line)
  pub tokens_are : lexemes new.tokens.items ≡ lexemes old.tokens.items ++ tokens_of_line text (table_of old.macros) (line_of line)

-- The lines of a text with their pieces.
abbrev pub with_pieces : LogicalLine → ReadLine
with_pieces line = record { line = line; pieces = pieces_of line.bytes }

abbrev pub read_lines : (text : List ℕ) → List ReadLine
read_lines text = map with_pieces (logical_lines text)

-- The text breaks no rule, and these are its tokens before strings are joined.
pub record IsWhole (text : List ℕ) (brought : Brought) : Type 0 where
  pub unbroken : breaches text (read_lines text) ≡ []
  pub tokens_are : lexemes brought.tokens.items ≡ over_lines (λ state r. tokens_of_line text state.table r) at_start (read_lines text)
