-- Erasing keeps the newlines.
use Rattle.std.proofs.Common.{◌≡◌, ℕ, ◌+◌, ◌-◌, ◌≤◌, Bool, true, false, List, [], ◌∷◌, ◌++◌, length, drop, take, refl, ap, ap₂, sym, ◌∙◌, arith, take-append-drop, cond}
use Rattle.std.specs.Prelude.{flat_map, slice_range, filter, ◌==◌}
use Rattle.std.proofs.lemmas.List.{drop-drop, append-nil}
use Rattle.std.proofs.lemmas.List.Sums.{length-filter, sum_by-append}
use Rattle.css_lexemes.specs.declared.source.SourceByte.{SourceByte}
use Rattle.css_lexemes.specs.declared.line_kind.LineKind.{LineKind}
use Rattle.css_lexemes.specs.Lines.{LogicalLine, lines_from, shown_bytes, logical_lines, is_css, kind_of_line, kept_of, newlines, erased}
use Rattle.css_lexemes.proofs.Rests.{rest_is}
use Rattle.css_lexemes.proofs.Places.{AreBetween, from_lower, shown_between}

-- The lines' parts of the text.
abbrev parts_of : List ℕ → List LogicalLine → List ℕ
parts_of text lines = flat_map (λ line. slice_range text line.from line.to) lines

slice_then_rest : (text : List ℕ) (from to : ℕ) → from ≤ to → slice_range text from to ++ drop to text ≡ drop from text
slice_then_rest text from to l =
    ap (λ z. take (to - from) (drop from text) ++ z) (ap (λ n. drop n text) (omega arith) ∙ sym (drop-drop (to - from) from text))
    ∙ take-append-drop (to - from) (drop from text)

-- The lines are the text's parts, one after the other.
lines_are : (text : List ℕ) (from : ℕ) (front bytes : List SourceByte) → AreBetween from (length text) bytes
    → parts_of text (lines_from from (length text) front bytes) ≡ drop from text
lines_are text from front [] between = append-nil (slice_range text from (length text)) ∙ rest_is from text
lines_are text from front (c ∷ bytes) between = by (c.byte == 10) (lines_are text (c.place + 1) [] bytes between.2)
    (lines_are text from (front ++ c ∷ []) bytes (from_lower from (c.place + 1) (length text) bytes (omega (arith, between.0)) between.2))
  where
    by : (newline : Bool) → parts_of text (lines_from (c.place + 1) (length text) [] bytes) ≡ drop (c.place + 1) text
        → parts_of text (lines_from from (length text) (front ++ c ∷ []) bytes) ≡ drop from text
        → parts_of text (cond newline (record { bytes = front; from = from; to = c.place + 1 } ∷ lines_from (c.place + 1) (length text) [] bytes) (lines_from from (length text) (front ++ c ∷ []) bytes)) ≡ drop from text
    by true a b = ap (λ z. slice_range text from (c.place + 1) ++ z) a ∙ slice_then_rest text from (c.place + 1) (omega (arith, between.0))
    by false a b = b

-- A filter keeps what passes.
filter_twice : (bytes : List ℕ) → filter (λ b. b == 10) (filter (λ b. b == 10) bytes) ≡ filter (λ b. b == 10) bytes
filter_twice [] = refl
filter_twice (b ∷ bytes) = by (b == 10) refl (filter_twice bytes)
  where
    by : (newline : Bool) → (b == 10) ≡ newline → filter (λ b. b == 10) (filter (λ b. b == 10) bytes) ≡ filter (λ b. b == 10) bytes
        → filter (λ b. b == 10) (cond newline (b ∷ filter (λ b. b == 10) bytes) (filter (λ b. b == 10) bytes)) ≡ cond newline (b ∷ filter (λ b. b == 10) bytes) (filter (λ b. b == 10) bytes)
    by true is twice = rw is (ap (λ z. b ∷ z) twice)
    by false is twice = twice

pub filtered : (bytes : List ℕ) → newlines (filter (λ b. b == 10) bytes) ≡ newlines bytes
filtered bytes =
    sym (length-filter (λ b. b == 10) (filter (λ b. b == 10) bytes)) ∙ ap length (filter_twice bytes) ∙ length-filter (λ b. b == 10) bytes

kept_newlines : (kind : LineKind) (part : List ℕ) → newlines (kept_of kind part) ≡ newlines part
kept_newlines kind part = by (is_css kind)
  where
    by : (css : Bool) → newlines (cond css (filter (λ b. b == 10) part) part) ≡ newlines part
    by true = filtered part
    by false = refl

lines_newlines : (text : List ℕ) (lines : List LogicalLine)
    → newlines (flat_map (λ line. kept_of (kind_of_line line) (slice_range text line.from line.to)) lines) ≡ newlines (parts_of text lines)
lines_newlines text [] = refl
lines_newlines text (line ∷ lines) =
    let part = slice_range text line.from line.to in
    let rest = flat_map (λ (l : LogicalLine). kept_of (kind_of_line l) (slice_range text l.from l.to)) lines in
    sum_by-append (λ b. cond (b == 10) 1 0) (kept_of (kind_of_line line) part) rest
    ∙ ap₂ ◌+◌ (kept_newlines (kind_of_line line) part) (lines_newlines text lines)
    ∙ sym (sum_by-append (λ b. cond (b == 10) 1 0) part (parts_of text lines))

pub erased_newlines : (text : List ℕ) → newlines (erased text) ≡ newlines text
erased_newlines text = lines_newlines text (logical_lines text) ∙ ap newlines (lines_are text 0 [] (shown_bytes text) (shown_between text))
