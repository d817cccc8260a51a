-- Erasing line by line.
use Rattle.std.proofs.Common.{◌≡◌, ℕ, ◌+◌, ◌<◌, ◌≤◌, List, [], ◌∷◌, ◌++◌, length, drop, get_or, refl, ap, sym, ◌∙◌, subst, arith, append_assoc, eq-eqb}
use Rattle.std.specs.Prelude.{flat_map, slice_range}
use Rattle.std.proofs.lemmas.List.{drop_more, append-nil, map-append}
use Rattle.std.proofs.lemmas.Bool.{ne_eqb}
use Rattle.std.proofs.Math.Seq.{drop-length}
use Rattle.css_lexemes.specs.declared.source.SourceByte.{SourceByte}
use Rattle.css_lexemes.specs.Source.{bytes_of}
use Rattle.css_lexemes.specs.LineKinds.{line_kind}
use Rattle.css_lexemes.specs.Lines.{LogicalLine, lines_from, shown_bytes, kind_of_line, kept_of, erased}
use Rattle.css_lexemes.proofs.Places.{AreBetween, from_lower, shown_between}

-- What is left of some lines.
abbrev pub left_of : List ℕ → List LogicalLine → List ℕ
left_of text lines = flat_map (λ line. kept_of (kind_of_line line) (slice_range text line.from line.to)) lines

-- Of the text's lines so many bytes were looked at; the line at hand shows `line` so far, and begins at `from`.
pub record IsLeft (text : List ℕ) (shown : List SourceByte) (left line : List ℕ) (from place : ℕ) : Type 0 where
  pub front : List SourceByte
  pub front_is : bytes_of front ≡ line
  pub left_is : erased text ≡ left ++ left_of text (lines_from from (length text) front (drop place shown))
  pub between : AreBetween from (length text) (drop place shown)

pub none_left : (text : List ℕ) (shown : List SourceByte) → shown ≡ shown_bytes text → IsLeft text shown [] [] 0 0
none_left text shown is = record {
  front = [];
  front_is = refl;
  left_is = ap (λ z. left_of text (lines_from 0 (length text) [] z)) (sym is);
  between = subst (λ z. AreBetween 0 (length text) z) (sym is) (shown_between text);
}

abbrev pub at_place : List SourceByte → ℕ → SourceByte
at_place text place = get_or text place (record { byte = 0; place = 0 })

pub rest_at : (shown : List SourceByte) (place : ℕ) → place < length shown → drop place shown ≡ at_place shown place ∷ drop (place + 1) shown
rest_at shown place inside = drop_more shown place (record { byte = 0; place = 0 }) inside

pub newline_line : (from to : ℕ) (front : List SourceByte) (c : SourceByte) (rest : List SourceByte) → c.byte ≡ 10
    → lines_from from to front (c ∷ rest) ≡ record { bytes = front; from = from; to = c.place + 1 } ∷ lines_from (c.place + 1) to [] rest
newline_line from to front c rest newline = let e = eq-eqb c.byte 10 newline in rw (lines_from, e) refl

pub other_line : (from to : ℕ) (front : List SourceByte) (c : SourceByte) (rest : List SourceByte) → (c.byte ≡ 10 → ⊥)
    → lines_from from to front (c ∷ rest) ≡ lines_from from to (front ++ c ∷ []) rest
other_line from to front c rest other = let e = ne_eqb c.byte 10 other in rw (lines_from, e) refl

-- What is left of a line that shows this.
part_left : (text : List ℕ) (front : List SourceByte) (line : List ℕ) (from to : ℕ) (rest : List LogicalLine) → bytes_of front ≡ line
    → left_of text (record { bytes = front; from = from; to = to } ∷ rest) ≡ kept_of (line_kind line) (slice_range text from to) ++ left_of text rest
part_left text front line from to rest is = ap (λ z. kept_of (line_kind z) (slice_range text from to) ++ left_of text rest) is

pub last_left : (text : List ℕ) (shown : List SourceByte) (left line : List ℕ) (from : ℕ) → IsLeft text shown left line from (length shown)
    → erased text ≡ left ++ kept_of (line_kind line) (slice_range text from (length text))
last_left text shown left line from l =
    l.left_is
    ∙ ap (λ z. left ++ z)
    (ap (λ z. left_of text (lines_from from (length text) l.front z)) (drop-length shown)
    ∙ part_left text l.front line from (length text) [] l.front_is
    ∙ append-nil (kept_of (line_kind line) (slice_range text from (length text))))

between_at : (text : List ℕ) (shown : List SourceByte) (low place : ℕ) → AreBetween low (length text) (drop place shown) → place < length shown
    → AreBetween low (length text) (at_place shown place ∷ drop (place + 1) shown)
between_at text shown low place between inside = subst (λ z. AreBetween low (length text) z) (rest_at shown place inside) between

-- A newline ends the line.
pub line_left : (text : List ℕ) (shown : List SourceByte) (left all line : List ℕ) (from place : ℕ) → IsLeft text shown left line from place → place < length shown
    → (at_place shown place).byte ≡ 10
    → all ≡ left ++ kept_of (line_kind line) (slice_range text from ((at_place shown place).place + 1))
    → IsLeft text shown all [] ((at_place shown place).place + 1) (place + 1)
line_left text shown left all line from place l inside newline is = record {
  front = [];
  front_is = refl;
  left_is =
      l.left_is
      ∙ ap (λ z. left ++ z)
      (ap (λ z. left_of text (lines_from from (length text) l.front z)) (rest_at shown place inside)
      ∙ ap (left_of text) (newline_line from (length text) l.front (at_place shown place) (drop (place + 1) shown) newline)
      ∙ part_left text l.front line from to (lines_from to (length text) [] (drop (place + 1) shown)) l.front_is)
      ∙ sym (append_assoc left (kept_of (line_kind line) (slice_range text from to)) (left_of text (lines_from to (length text) [] (drop (place + 1) shown))))
      ∙ ap (λ z. z ++ left_of text (lines_from to (length text) [] (drop (place + 1) shown))) (sym is);
  between = (between_at text shown from place l.between inside).2;
}
  where
    to : ℕ
    to = (at_place shown place).place + 1

-- Another byte is the line's.
pub byte_left : (text : List ℕ) (shown : List SourceByte) (left line longer : List ℕ) (from place : ℕ) → IsLeft text shown left line from place → place < length shown
    → ((at_place shown place).byte ≡ 10 → ⊥) → longer ≡ line ++ (at_place shown place).byte ∷ []
    → IsLeft text shown left longer from (place + 1)
byte_left text shown left line longer from place l inside other is =
    let c = at_place shown place in
    let between = between_at text shown from place l.between inside in
    record {
      front = l.front ++ c ∷ [];
      front_is = map-append (λ (b : SourceByte). b.byte) l.front (c ∷ []) ∙ ap (λ z. z ++ c.byte ∷ []) l.front_is ∙ sym is;
      left_is =
          l.left_is
          ∙ ap (λ z. left ++ left_of text (lines_from from (length text) l.front z)) (rest_at shown place inside)
          ∙ ap (λ z. left ++ left_of text z) (other_line from (length text) l.front c (drop (place + 1) shown) other);
      between = from_lower from (c.place + 1) (length text) (drop (place + 1) shown) (omega (arith, between.0)) between.2;
    }

-- The next byte stands in the line and in the text.
pub line_within : (text : List ℕ) (shown : List SourceByte) (left line : List ℕ) (from place : ℕ) → IsLeft text shown left line from place → place < length shown
    → (from ≤ (at_place shown place).place) × ((at_place shown place).place < length text)
line_within text shown left line from place l inside = let between = between_at text shown from place l.between inside in (between.0, between.1)

pub same_left : (text : List ℕ) (shown : List SourceByte) (left all line other : List ℕ) (from to place : ℕ) → IsLeft text shown left line from place
    → all ≡ left → other ≡ line → to ≡ from → IsLeft text shown all other to place
same_left text shown left all line other from to place l left_is line_is from_is =
    subst (λ z. IsLeft text shown z other to place) (sym left_is)
    (subst (λ z. IsLeft text shown left z to place) (sym line_is) (subst (λ z. IsLeft text shown left line z place) (sym from_is) l))
