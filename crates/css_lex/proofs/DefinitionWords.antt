-- The first pieces of a `#define`.
use Rattle.std.proofs.Common.{◌≡◌, ℕ, zero, suc, ◌+◌, ◌-◌, ◌<◌, ◌≤◌, inl, inr, true, false, ◌&&◌, List, [], ◌∷◌, length, take, drop, cond, refl, sym, ap, ◌∙◌, arith, length-drop}
use Rattle.std.specs.Prelude.{codes, nat_eq, slice_range, ◌==◌}
use Rattle.std.proofs.lemmas.Bool.{cases_Bool, cases_eq, cond-true, cond-false, eq-eqb, ne_eqb, and_from, and_left}
use Rattle.std.proofs.lemmas.List.{length-map, drop-map, drop-drop, drop_more, drop_all}
use Rattle.std.proofs.lemmas.List.Folds.{length-prefix_len}
use Rattle.std.proofs.lemmas.List.Sums.{prefix_len-le-length}
use Rattle.css_lexemes.specs.declared.pieces.Shape.{Shape}
use Rattle.css_lexemes.specs.declared.pieces.Shape.TheVariants as shapes
use Rattle.css_lexemes.specs.declared.source.SourceByte.{SourceByte}
use Rattle.css_lexemes.specs.Source.{begins_with, bytes_of}
use Rattle.css_lexemes.specs.LineKinds.{is_blank, behind_blanks}
use Rattle.css_lexemes.specs.Lexemes.{Piece}
use Rattle.css_lexemes.specs.Longest.{class_at, lexeme_length, shape_at, size_at, pieces_of, pieces_from}
use Rattle.css_lex.specs.Reading.{is_blank_piece, from_solid, behind_first, first_bytes}
use Rattle.css_lex.specs.Words.{IsPieceAt}
use Rattle.css_lex.specs.HashLines.{opens}
use Rattle.css_lexemes.proofs.Erasing.{at_place}
use Rattle.css_lexemes.proofs.Rests.{rest_is}
use Rattle.css_lex.proofs.WordsRead.{piece_at}
use Rattle.css_lexemes.proofs.Within.{size_some}
use Rattle.css_lex.proofs.Hashes.{blanks, blank_piece, one_more}

full_shape : (b : ℕ) (text : List ℕ) → is_blank b ≡ false → is_blank_piece (shape_at (b ∷ text)) ≡ false
full_shape b text full =
    ap is_blank_piece (cond-false (is_blank b) shapes.Blank (cond (lexeme_length (b ∷ text) == 0) shapes.Stray (shapes.Lexeme (class_at (b ∷ text)))) full)
    ∙ elim (cases_Bool (lexeme_length (b ∷ text) == 0)) [
      | inl none ↦ ap is_blank_piece (cond-true (lexeme_length (b ∷ text) == 0) shapes.Stray (shapes.Lexeme (class_at (b ∷ text))) none)
      | inr some ↦ ap is_blank_piece (cond-false (lexeme_length (b ∷ text) == 0) shapes.Stray (shapes.Lexeme (class_at (b ∷ text))) some)
    ]

-- The pieces behind the white space in front.
pub at_blanks : (line : List SourceByte) → from_solid (pieces_of line) ≡ pieces_of (drop (blanks line) line)
at_blanks [] = refl
at_blanks (c ∷ line) =
    elim (cases_Bool (is_blank c.byte)) [
      | inl blank ↦
          ap from_solid (blank_piece c line blank)
          ∙ (at_blanks line ∙ sym (ap (λ n. pieces_of (drop n (c ∷ line))) (cond-true (is_blank c.byte) (1 + blanks line) 0 blank ∙ one_more (blanks line))))
      | inr full ↦
          let p : Piece = record { shape = shape_at (bytes_of (c ∷ line)); bytes = take (size_at (bytes_of (c ∷ line))) (c ∷ line) } in
          let rest = pieces_from (size_at (bytes_of (c ∷ line)) - 1) line in
          cond-false (is_blank_piece p.shape) (from_solid rest) (p ∷ rest) (full_shape c.byte (bytes_of line) full)
          ∙ sym (ap (λ n. pieces_of (drop n (c ∷ line))) (cond-false (is_blank c.byte) (1 + blanks line) 0 full))
    ]

-- Where the white space ends.
pub solid_at : (line : List SourceByte) (bytes left : List ℕ) (from : ℕ) → bytes ≡ bytes_of line → from ≤ length bytes → left ≡ behind_blanks (slice_range bytes from (length bytes))
    → length bytes - length left ≡ from + blanks (drop from line)
solid_at line bytes left from same inside left_is =
    let rest : slice_range bytes from (length bytes) ≡ bytes_of (drop from line) = rest_is from bytes ∙ (ap (drop from) same ∙ drop-map (λ b. b.byte) from line) in
    let text = bytes_of (drop from line) in
    let size = ap length (left_is ∙ ap behind_blanks rest) ∙ length-drop _ text in
    let p = length-prefix_len is_blank text in
    let l = prefix_len-le-length is_blank text in
    let m = length-map (drop from line) (λ b. b.byte) in
    let d = length-drop from line in
    let whole = ap length same ∙ length-map line (λ b. b.byte) in
    omega (arith, size, p, l, m, d, whole, inside)

pub solid_pieces : (line : List SourceByte) (bytes left : List ℕ) (from : ℕ) → bytes ≡ bytes_of line → from ≤ length bytes → left ≡ behind_blanks (slice_range bytes from (length bytes))
    → pieces_of (drop (length bytes - length left) line) ≡ from_solid (pieces_of (drop from line))
solid_pieces line bytes left from same inside left_is =
    ap (λ n. pieces_of (drop n line)) (solid_at line bytes left from same inside left_is)
    ∙ (ap pieces_of (sym (drop-drop (blanks (drop from line)) from line)) ∙ sym (at_blanks (drop from line)))

pub behind_piece : (line : List SourceByte) (shape : Shape) (from at to : ℕ) → pieces_of (drop at line) ≡ from_solid (pieces_of (drop from line)) → IsPieceAt line shape at to
    → pieces_of (drop to line) ≡ behind_first (pieces_of (drop from line))
behind_piece line shape from at to first is = sym (ap (drop 1) (sym first ∙ piece_at line shape at to is))

turned : (b k : ℕ) → nat_eq b k ≡ (nat_eq k b && true)
turned b k =
    elim (cases_eq b k) [
      | inl e ↦ eq-eqb b k e ∙ sym (and_from (nat_eq k b) true (eq-eqb k b (sym e)) refl)
      | inr ne ↦ ne_eqb b k ne ∙ sym (and_left (nat_eq k b) true (ne_eqb k b (λ e. ne (sym e))))
    ]

first_byte : (n : ℕ) (c : SourceByte) (line : List SourceByte) → 0 < n → begins_with (codes "(") (bytes_of (take n (c ∷ line))) ≡ (nat_eq 40 c.byte && true)
first_byte zero c line some = absurd (omega arith)
first_byte (suc n) c line some = refl

opens_first : (line : List SourceByte) (k : ℕ) → k < length line → begins_with (codes "(") (bytes_of (first_bytes (pieces_of (drop k line)))) ≡ nat_eq (at_place line k).byte 40
opens_first line k inside =
    let c = at_place line k in
    let rest = drop (k + 1) line in
    ap (λ l. begins_with (codes "(") (bytes_of (first_bytes (pieces_of l)))) (drop_more line k (record { byte = 0; place = 0 }) inside)
    ∙ (first_byte (size_at (bytes_of (c ∷ rest))) c rest (size_some c.byte (bytes_of rest)) ∙ sym (turned c.byte 40))

-- What stands behind the first solid piece.
pub opens_at : (line : List SourceByte) (pieces : List Piece) (k : ℕ) → k < length line → pieces_of (drop k line) ≡ behind_first pieces
    → nat_eq (at_place line k).byte 40 ≡ opens (from_solid pieces)
opens_at line pieces k inside behind = by (from_solid pieces) behind
  where
    some : pieces_of (drop k line) ≡ [] → ⊥
    some e =
        let c = at_place line k in
        let rest = drop (k + 1) line in
        let h = sym (ap pieces_of (drop_more line k (record { byte = 0; place = 0 }) inside)) ∙ e in cc

    by : (found : List Piece) → pieces_of (drop k line) ≡ drop 1 found → nat_eq (at_place line k).byte 40 ≡ opens found
    by [] e = absurd (some e)
    by (p ∷ rest) e = sym (ap (λ ps. begins_with (codes "(") (bytes_of (first_bytes ps))) (sym e) ∙ opens_first line k inside)

pub opens_none : (line : List SourceByte) (pieces : List Piece) (k : ℕ) → length line ≤ k → pieces_of (drop k line) ≡ behind_first pieces → false ≡ opens (from_solid pieces)
opens_none line pieces k end behind = by (from_solid pieces) (sym (ap pieces_of (drop_all k line end)) ∙ behind)
  where
    by : (found : List Piece) → [] ≡ drop 1 found → false ≡ opens found
    by [] e = refl
    by (p ∷ rest) e = ap (λ ps. begins_with (codes "(") (bytes_of (first_bytes ps))) e
