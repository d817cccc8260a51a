-- Logical lines, and the text that is left where those are erased that are directives.
use Rattle.std.specs.Prelude.{ℕ, ◌+◌, Bool, true, false, List, [], ◌∷◌, ◌++◌, length, filter, flat_map, count_by, slice_range, ◌==◌, if◌then◌else◌}
use Rattle.css_lexemes.specs.declared.line_kind.LineKind.{LineKind}
use Rattle.css_lexemes.specs.declared.line_kind.LineKind.TheVariants as kinds
use Rattle.css_lexemes.specs.declared.source.SourceByte.{SourceByte}
use Rattle.css_lexemes.specs.Source.{unspliced, bytes_of}
use Rattle.css_lexemes.specs.Comments.{uncommented}
use Rattle.css_lexemes.specs.LineKinds.{line_kind}

-- A logical line: its bytes without splices, comments and the newline that ends it, and its part of the text from the first
-- place up to the second, with all of them.
pub record LogicalLine : Type 0 where
  pub bytes : List SourceByte
  pub from : ℕ
  pub to : ℕ

-- The lines that begin at `from` and show `front` so far. A newline that is left ends a line; the text's end, at `to`,
-- ends the last one.
abbrev pub lines_from : (from to : ℕ) (front bytes : List SourceByte) → List LogicalLine
lines_from from to front [] = record { bytes = front; from = from; to = to } ∷ []
lines_from from to front (c ∷ bytes) =
    if c.byte == 10
    then record { bytes = front; from = from; to = c.place + 1 } ∷ lines_from (c.place + 1) to [] bytes
    else lines_from from to (front ++ c ∷ []) bytes

-- What a text shows: its bytes without splices, and each comment as a space.
abbrev pub shown_bytes : List ℕ → List SourceByte
shown_bytes text = uncommented [] 0 0 (unspliced 0 0 text)

-- The logical lines of a text.
abbrev pub logical_lines : List ℕ → List LogicalLine
logical_lines text = lines_from 0 (length text) [] (shown_bytes text)

abbrev pub kind_of_line : LogicalLine → LineKind
kind_of_line line = line_kind (bytes_of line.bytes)

abbrev pub is_css : LineKind → Bool
is_css kinds.Css = true
is_css _ = false

-- What is left of some bytes: of a directive's the newlines alone.
abbrev pub kept_of : LineKind → List ℕ → List ℕ
kept_of kind part = if is_css kind then filter (λ b. b == 10) part else part

-- The text without its directives: of each logical line that is one only the newlines are left.
abbrev pub erased : List ℕ → List ℕ
erased text = flat_map (λ line. kept_of (kind_of_line line) (slice_range text line.from line.to)) (logical_lines text)

-- The newlines among some bytes.
abbrev pub newlines : List ℕ → ℕ
newlines bytes = count_by (λ b. b == 10) bytes
