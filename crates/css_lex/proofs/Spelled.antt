-- What a part of a line spells.
use Rattle.std.proofs.Common.{◌≡◌, ℕ, zero, suc, ◌+◌, ◌-◌, ◌<◌, ◌≤◌, List, [], ◌∷◌, ◌++◌, length, get_or, take, drop, map, refl, sym, ap, ◌∙◌, arith, length-drop, Some, None, option_map}
use Rattle.std.specs.Prelude.{slice_range, slice_index, length}
use Rattle.std.proofs.lemmas.List.{take-map, drop-map, drop_more, take_more, get_or-drop}
use Rattle.css_base.specs.Tokens.{Kind, Lexeme, At}
use Rattle.css_lexemes.specs.declared.lexeme_class.LexemeClass.{LexemeClass}
use Rattle.css_lexemes.specs.declared.pieces.Shape.{Shape}
use Rattle.css_lexemes.specs.declared.pieces.Shape.TheVariants as shapes
use Rattle.css_lexemes.specs.declared.source.SourceByte.{SourceByte}
use Rattle.css_lexemes.specs.Source.{bytes_of}
use Rattle.css_lexemes.specs.Values.{kind_of_lexeme}
use Rattle.css_lex.specs.Reading.{kind_in, kind_of_piece, place_of, end_of, last_place}
use Rattle.css_lex.specs.Spelling.{line_at}
use Rattle.css_lex.specs.Words.{piece_in, word_of}
use Rattle.css_lexemes.proofs.Erasing.{at_place}

pub bytes_in : (line : List SourceByte) (from to : ℕ) → bytes_of (slice_range line from to) ≡ slice_range (bytes_of line) from to
bytes_in line from to = sym (ap (take (to - from)) (drop-map (λ b. b.byte) from line) ∙ take-map (λ b. b.byte) (to - from) (drop from line))

first_place_of : (n : ℕ) (c : SourceByte) (line : List SourceByte) → 0 < n → slice_index (map (λ b. b.place) (take n (c ∷ line))) 0 ≡ c.place
first_place_of zero c line some = absurd (omega arith)
first_place_of (suc n) c line some = refl

pub place_in : (line : List SourceByte) (shape : Shape) (from to : ℕ) → from < to → to ≤ length line → place_of (piece_in line shape from to) ≡ (at_place line from).place
place_in line shape from to some inside =
    ap (λ l. slice_index (map (λ b. b.place) (take (to - from) l)) 0) (drop_more line from (record { byte = 0; place = 0 }) (omega arith))
    ∙ first_place_of (to - from) (at_place line from) (drop (from + 1) line) (omega arith)

last_of : (front : List SourceByte) (c : SourceByte) → last_place (front ++ c ∷ []) ≡ c.place
last_of [] c = refl
last_of (b ∷ []) c = refl
last_of (b ∷ d ∷ front) c = last_of (d ∷ front) c

pub last_in : (line : List SourceByte) (from to : ℕ) → from < to → to ≤ length line → last_place (slice_range line from to) ≡ (at_place line (to - 1)).place
last_in line from to some inside =
    let i = to - 1 - from in
    let size : to - from ≡ i + 1 = omega arith in
    let l = length-drop from line in
    let more : take (i + 1) (drop from line) ≡ take i (drop from line) ++ get_or (drop from line) i (record { byte = 0; place = 0 }) ∷ [] =
    take_more (drop from line) i (record { byte = 0; place = 0 }) (omega arith) in
    ap (λ n. last_place (take n (drop from line))) size
    ∙ (ap last_place more
    ∙ (last_of (take i (drop from line)) (get_or (drop from line) i (record { byte = 0; place = 0 }))
    ∙ ap (λ c. c.place) (get_or-drop from line i (record { byte = 0; place = 0 }) ∙ ap (at_place line) (omega arith))))

pub end_in : (line : List SourceByte) (shape : Shape) (from to : ℕ) → from < to → to ≤ length line → end_of (piece_in line shape from to) ≡ (at_place line (to - 1)).place + 1
end_in line shape from to some inside = ap (λ n. n + 1) (last_in line from to some inside)

-- A lexeme that stands for nothing.
pub no_word : (text : List ℕ) (line : List SourceByte) (shape : Shape) (class : LexemeClass) (from to : ℕ) → shape ≡ shapes.Lexeme class
    → kind_of_lexeme class (slice_range (bytes_of line) from to) ≡ None → None ≡ word_of text (piece_in line shape from to)
no_word text line shape class from to is none =
    let p = piece_in line shape from to in
    let kind : kind_of_piece p ≡ None = ap (λ s. kind_in s (bytes_of (slice_range line from to))) is ∙ (ap (kind_of_lexeme class) (bytes_in line from to) ∙ none) in
    sym (ap (option_map (λ kind. At kind (line_at text (place_of p)) (place_of p) (end_of p))) kind)

pub one_word : (text : List ℕ) (line : List SourceByte) (shape : Shape) (class : LexemeClass) (from to place end : ℕ) (kind : Kind) (word : Lexeme) → from < to → to ≤ length line
    → shape ≡ shapes.Lexeme class → kind_of_lexeme class (slice_range (bytes_of line) from to) ≡ Some kind → place ≡ (at_place line from).place
    → end ≡ (at_place line (to - 1)).place + 1 → word ≡ At kind (line_at text place) place end → Some word ≡ word_of text (piece_in line shape from to)
one_word text line shape class from to place end kind word some inside is found place_is end_is word_is =
    let p = piece_in line shape from to in
    let kind_is : kind_of_piece p ≡ Some kind = ap (λ s. kind_in s (bytes_of (slice_range line from to))) is ∙ (ap (kind_of_lexeme class) (bytes_in line from to) ∙ found) in
    ap Some
    (word_is
    ∙ (ap (λ n. At kind (line_at text n) n end) (place_is ∙ sym (place_in line shape from to some inside))
    ∙ ap (λ n. At kind (line_at text (place_of p)) (place_of p) n) (end_is ∙ sym (end_in line shape from to some inside))))
    ∙ sym (ap (option_map (λ k. At k (line_at text (place_of p)) (place_of p) (end_of p))) kind_is)
