-- What the lines of a text bring: macros, tokens and replaced names.
use Rattle.std.specs.Prelude.{ℕ, ◌+◌, List, [], ◌∷◌, ◌++◌, length, flat_map, sum_by, Some, None}
use Rattle.css_lexemes.specs.declared.line_kind.LineKind.{LineKind}
use Rattle.css_lexemes.specs.declared.line_kind.LineKind.TheVariants as kinds
use Rattle.css_lexemes.specs.Lines.{kind_of_line}
use Rattle.css_lexemes.specs.Lexemes.{Piece}
use Rattle.css_macros.specs.Macros.{Table, replacement, replacement_names, predefined_macros}
use Rattle.css_lex.specs.Reading.{ReadLine, solid, read_by, kind_of_piece, place_of, first_place, table_behind}

-- How many tokens a place of the text gives, before strings are joined, and how many names are replaced there.
pub record Cost : Type 0 where
  pub place : ℕ
  pub tokens : ℕ
  pub names : ℕ

abbrev pub piece_costs : Table → Piece → List Cost
piece_costs table p =
    elim (kind_of_piece p) [
      | None ↦ []
      | Some kind ↦ record { place = place_of p; tokens = length (replacement table kind); names = replacement_names table kind } ∷ []
    ]

-- The costs of a line's solid pieces. A directive is one token, and each of its words is one.
abbrev pub costs_by : LineKind → Table → List Piece → List Cost
costs_by kinds.Text table pieces = flat_map (piece_costs table) (read_by kinds.Text pieces)
costs_by kinds.Css table pieces =
    record { place = first_place pieces; tokens = 1; names = 0 } ∷ flat_map (piece_costs table) (read_by kinds.Css pieces)
costs_by _ table pieces = []

abbrev pub costs : Table → ReadLine → List Cost
costs table r = costs_by (kind_of_line r.line) table (solid r.pieces)

-- What stands before a line: the macros that are defined there, how many tokens there are, before strings are joined, and
-- how many names were replaced.
pub record State : Type 0 where
  pub table : Table
  pub tokens : ℕ
  pub names : ℕ

abbrev pub at_start : State
at_start = record { table = predefined_macros; tokens = 0; names = 0 }

abbrev pub state_behind : State → ReadLine → State
state_behind state r = record {
  table = table_behind state.table r;
  tokens = state.tokens + sum_by (λ c. c.tokens) (costs state.table r);
  names = state.names + sum_by (λ c. c.names) (costs state.table r);
}

-- What the lines give one after the other, each by what stands before it.
abbrev pub over_lines : {A : Type 0} → (State → ReadLine → List A) → State → List ReadLine → List A
over_lines give state [] = []
over_lines give state (r ∷ lines) = give state r ++ over_lines give (state_behind state r) lines
