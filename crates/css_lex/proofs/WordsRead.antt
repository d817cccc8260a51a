-- The words of a line, one piece at a time.
use Rattle.std.proofs.Common.{◌≡◌, ℕ, zero, suc, ◌+◌, ◌-◌, ◌<◌, ◌≤◌, true, false, not, List, [], ◌∷◌, ◌++◌, length, take, drop, inl, inr, refl, sym, ap, ◌∙◌, arith, append_assoc, length-drop, Option, Some, None, option_map}
use Rattle.std.specs.Prelude.{slice_range, ◌==◌}
use Rattle.std.proofs.lemmas.Bool.{and_parts, and_cases, both_ways, cond-true, cond-false, eqb-true, eqb-false, not-true, cases_Bool}
use Rattle.std.proofs.lemmas.List.{length-map, drop-map, drop-drop, drop_all, append-nil}
use Rattle.css_base.specs.Tokens.{Kind, Lexeme, At}
use Rattle.css_lexemes.specs.declared.pieces.Shape.{Shape}
use Rattle.css_lexemes.specs.declared.source.SourceByte.{SourceByte}
use Rattle.css_lexemes.specs.Source.{bytes_of}
use Rattle.css_lexemes.specs.Lexemes.{Piece}
use Rattle.css_lexemes.specs.Longest.{shape_at, size_at, pieces_of, pieces_from}
use Rattle.css_lex.specs.Reading.{is_blank_piece, solid, kind_of_piece, place_of, end_of}
use Rattle.css_lex.specs.Spelling.{line_at}
use Rattle.css_lex.specs.Words.{IsPieceAt, piece_in, word_of, own_breach, words_of, failure_of, is_kept, skip_behind}
use Rattle.css_lexemes.proofs.Rests.{rest_is}
use Rattle.css_lexemes.proofs.LinePieces.{pieces_behind, drop_first}
use Rattle.css_lexemes.proofs.Within.{size_within, size_some}

first_piece_is : (rest : List SourceByte) → 0 < length rest
    → pieces_of rest ≡ record { shape = shape_at (bytes_of rest); bytes = take (size_at (bytes_of rest)) rest } ∷ pieces_of (drop (size_at (bytes_of rest)) rest)
first_piece_is [] some = absurd (omega arith)
first_piece_is (c ∷ rest) some =
    let size = size_at (bytes_of (c ∷ rest)) in
    ap (λ ps. record { shape = shape_at (bytes_of (c ∷ rest)); bytes = take size (c ∷ rest) } ∷ ps)
    (pieces_behind (size - 1) rest ∙ ap (pieces_from 0) (sym (drop_first size c rest (size_some c.byte (bytes_of rest)))))

pub piece_at : (line : List SourceByte) (shape : Shape) (from to : ℕ) → IsPieceAt line shape from to
    → pieces_of (drop from line) ≡ piece_in line shape from to ∷ pieces_of (drop to line)
piece_at line shape from to is =
    let rest = drop from line in
    let size = size_at (bytes_of rest) in
    let l = length-drop from line in
    let inside = is.inside in
    let to_is = is.to_is in
    first_piece_is rest (omega (arith, l, inside))
    ∙ (ap (λ s. record { shape = s; bytes = take size rest } ∷ pieces_of (drop size rest)) (sym is.shape_is)
    ∙ (ap (λ n. record { shape = shape; bytes = take n rest } ∷ pieces_of (drop size rest)) (omega (arith, to_is))
    ∙ ap (λ r. piece_in line shape from to ∷ pieces_of r) (drop-drop size from line ∙ ap (λ n. drop n line) (sym is.to_is))))

size_some_at : (rest : List SourceByte) → 0 < length rest → 0 < size_at (bytes_of rest)
size_some_at [] some = absurd (omega arith)
size_some_at (c ∷ rest) some = size_some c.byte (bytes_of rest)

pub piece_some : (line : List SourceByte) (shape : Shape) (from to : ℕ) → IsPieceAt line shape from to → from < to
piece_some line shape from to is =
    let l = length-drop from line in
    let inside = is.inside in
    let some = size_some_at (drop from line) (omega (arith, l, inside)) in
    let to_is = is.to_is in omega (arith, some, to_is)

pub piece_inside : (line : List SourceByte) (shape : Shape) (from to : ℕ) → IsPieceAt line shape from to → to ≤ length line
piece_inside line shape from to is =
    let l = length-drop from line in
    let m = length-map (drop from line) (λ b. b.byte) in
    let inside = is.inside in
    let within = size_within (bytes_of (drop from line)) in
    let to_is = is.to_is in omega (arith, l, m, within, to_is, inside)

-- What the code reads as a piece is one.
pub found_piece : (line : List SourceByte) (bytes : List ℕ) (shape : Shape) (from size to : ℕ) → bytes ≡ bytes_of line → from < length bytes
    → shape ≡ shape_at (slice_range bytes from (length bytes)) → size ≡ size_at (slice_range bytes from (length bytes)) → to ≡ from + size → IsPieceAt line shape from to
found_piece line bytes shape from size to same inside shape_is size_is to_is =
    let rest : slice_range bytes from (length bytes) ≡ bytes_of (drop from line) = rest_is from bytes ∙ (ap (drop from) same ∙ drop-map (λ b. b.byte) from line) in
    record {
      shape_is = shape_is ∙ ap shape_at rest;
      to_is = to_is ∙ ap (λ n. from + n) (size_is ∙ ap size_at rest);
      inside = let l = ap length same ∙ length-map line (λ b. b.byte) in omega (arith, inside, l);
    }

-- The pieces that are still to be read.
abbrev pub left_pieces : (line : List SourceByte) (skip from : ℕ) → List Piece
left_pieces line skip from = drop skip (solid (pieces_of (drop from line)))

solid_step : (p : Piece) (pieces : List Piece) → is_blank_piece p.shape ≡ false → solid (p ∷ pieces) ≡ p ∷ solid pieces
solid_step p pieces solid_one = cond-true (not (is_blank_piece p.shape)) _ _ (ap not solid_one)

blank_step : (p : Piece) (pieces : List Piece) → is_blank_piece p.shape ≡ true → solid (p ∷ pieces) ≡ solid pieces
blank_step p pieces blank = cond-false (not (is_blank_piece p.shape)) _ _ (ap not blank)

pub kept_step : (line : List SourceByte) (shape : Shape) (skip from to : ℕ) → IsPieceAt line shape from to → is_kept skip shape ≡ true
    → left_pieces line skip from ≡ piece_in line shape from to ∷ left_pieces line (skip_behind skip shape) to
kept_step line shape skip from to is kept =
    let h = and_parts (skip == 0) (not (is_blank_piece shape)) kept in
    let none : skip ≡ 0 = eqb-true skip 0 h.0 in
    let solid_one : is_blank_piece shape ≡ false = not-true (is_blank_piece shape) h.1 in
    let behind : skip_behind skip shape ≡ 0 = cond-false (is_blank_piece shape) _ _ solid_one ∙ omega (arith, none) in
    ap (λ n. drop n (solid (pieces_of (drop from line)))) none
    ∙ (ap solid (piece_at line shape from to is)
    ∙ (solid_step (piece_in line shape from to) (pieces_of (drop to line)) solid_one
    ∙ ap (λ n. piece_in line shape from to ∷ drop n (solid (pieces_of (drop to line)))) (sym behind)))

skipped_one : (skip : ℕ) (p : Piece) (pieces : List Piece) → 0 < skip → drop skip (p ∷ pieces) ≡ drop (skip - 1) pieces
skipped_one skip p pieces some = drop_first skip p pieces some

pub passed_step : (line : List SourceByte) (shape : Shape) (skip from to : ℕ) → IsPieceAt line shape from to → is_kept skip shape ≡ false
    → left_pieces line skip from ≡ left_pieces line (skip_behind skip shape) to
passed_step line shape skip from to is passed =
    let p = piece_in line shape from to in
    ap (λ ps. drop skip (solid ps)) (piece_at line shape from to is)
    ∙ elim (cases_Bool (is_blank_piece shape)) [
      | inl blank ↦ ap (drop skip) (blank_step p (pieces_of (drop to line)) blank) ∙ ap (λ n. drop n (solid (pieces_of (drop to line)))) (sym (cond-true (is_blank_piece shape) _ _ blank))
      | inr solid_one ↦
          let some : 0 < skip = kept_some solid_one in
          ap (drop skip) (solid_step p (pieces_of (drop to line)) solid_one)
          ∙ (drop_first skip p (solid (pieces_of (drop to line))) some
          ∙ ap (λ n. drop n (solid (pieces_of (drop to line)))) (sym (cond-false (is_blank_piece shape) _ _ solid_one)))
    ]
  where
    kept_some : is_blank_piece shape ≡ false → 0 < skip
    kept_some solid_one =
        elim (and_cases (skip == 0) (not (is_blank_piece shape)) passed) [
          | inl h ↦ let n = eqb-false skip 0 h in omega (arith, n)
          | inr h ↦ absurd (both_ways (not (is_blank_piece shape)) h (ap not solid_one))
        ]

-- So far these words were read.
pub record IsReading (text : List ℕ) (line : List SourceByte) (words : List Lexeme) (skipped skip from : ℕ) : Type 0 where
  pub words_are : words_of text (left_pieces line skipped 0) ≡ words ++ words_of text (left_pieces line skip from)
  pub failure_is : failure_of (left_pieces line skipped 0) ≡ failure_of (left_pieces line skip from)

pub none_read : (text : List ℕ) (line : List SourceByte) (skipped : ℕ) → IsReading text line [] skipped skipped 0
none_read text line skipped = record { words_are = refl; failure_is = refl }

kind_some : (text : List ℕ) (p : Piece) (w : Lexeme) → word_of text p ≡ Some w → (kind : Kind) × (kind_of_piece p ≡ Some kind)
kind_some text p w is = by (kind_of_piece p) refl is
  where
    by : (o : Option Kind) → kind_of_piece p ≡ o → option_map (λ kind. At kind (line_at text (place_of p)) (place_of p) (end_of p)) o ≡ Some w
        → (kind : Kind) × (kind_of_piece p ≡ Some kind)
    by None e is = absurd cc
    by (Some kind) e is = (kind, e)

kind_none : (text : List ℕ) (p : Piece) → word_of text p ≡ None → kind_of_piece p ≡ None
kind_none text p is = by (kind_of_piece p) refl is
  where
    by : (o : Option Kind) → kind_of_piece p ≡ o → option_map (λ kind. At kind (line_at text (place_of p)) (place_of p) (end_of p)) o ≡ None
        → kind_of_piece p ≡ None
    by None e is = e
    by (Some kind) e is = absurd cc

pub one_read : (text : List ℕ) (line : List SourceByte) (words all : List Lexeme) (shape : Shape) (w : Lexeme) (skipped skip from to : ℕ)
    → IsReading text line words skipped skip from → IsPieceAt line shape from to → is_kept skip shape ≡ true
    → word_of text (piece_in line shape from to) ≡ Some w → all ≡ words ++ w ∷ [] → IsReading text line all skipped (skip_behind skip shape) to
one_read text line words all shape w skipped skip from to reading is kept word all_are =
    let p = piece_in line shape from to in
    let rest = left_pieces line (skip_behind skip shape) to in
    let step = kept_step line shape skip from to is kept in
    let kind = kind_some text p w word in
    let first : words_of text (p ∷ rest) ≡ w ∷ words_of text rest = rw (words_of, word) refl in
    let fails : failure_of (p ∷ rest) ≡ failure_of rest = let e = kind.1 in rw (failure_of, e) refl in
    record {
      words_are =
          reading.words_are
          ∙ (ap (λ ps. words ++ words_of text ps) step
          ∙ (ap (λ ws. words ++ ws) first ∙ (sym (append_assoc words (w ∷ []) (words_of text rest)) ∙ ap (λ a. a ++ words_of text rest) (sym all_are))));
      failure_is = reading.failure_is ∙ (ap failure_of step ∙ fails);
    }

pub one_passed : (text : List ℕ) (line : List SourceByte) (words : List Lexeme) (shape : Shape) (skipped skip from to : ℕ)
    → IsReading text line words skipped skip from → IsPieceAt line shape from to → is_kept skip shape ≡ false
    → IsReading text line words skipped (skip_behind skip shape) to
one_passed text line words shape skipped skip from to reading is passed =
    let step = passed_step line shape skip from to is passed in
    record { words_are = reading.words_are ∙ ap (λ ps. words ++ words_of text ps) step; failure_is = reading.failure_is ∙ ap failure_of step }

-- The first piece that spells nothing.
pub words_failed : (text : List ℕ) (line : List SourceByte) (words : List Lexeme) (shape : Shape) (skipped skip from to : ℕ)
    → IsReading text line words skipped skip from → IsPieceAt line shape from to → is_kept skip shape ≡ true
    → word_of text (piece_in line shape from to) ≡ None → words ≡ words_of text (left_pieces line skipped 0)
words_failed text line words shape skipped skip from to reading is kept none =
    let p = piece_in line shape from to in
    let rest = left_pieces line (skip_behind skip shape) to in
    let first : words_of text (p ∷ rest) ≡ [] = rw (words_of, none) refl in
    sym (reading.words_are ∙ (ap (λ ps. words ++ words_of text ps) (kept_step line shape skip from to is kept) ∙ (ap (λ ws. words ++ ws) first ∙ append-nil words)))

pub failure_found : (text : List ℕ) (line : List SourceByte) (words : List Lexeme) (shape : Shape) (skipped skip from to : ℕ)
    → IsReading text line words skipped skip from → IsPieceAt line shape from to → is_kept skip shape ≡ true
    → word_of text (piece_in line shape from to) ≡ None → Some (own_breach (piece_in line shape from to)) ≡ failure_of (left_pieces line skipped 0)
failure_found text line words shape skipped skip from to reading is kept none =
    let p = piece_in line shape from to in
    let rest = left_pieces line (skip_behind skip shape) to in
    let kind = kind_none text p none in
    let first : failure_of (p ∷ rest) ≡ Some (own_breach p) = rw (failure_of, kind) refl in
    sym (reading.failure_is ∙ (ap failure_of (kept_step line shape skip from to is kept) ∙ first))

no_pieces : (line : List SourceByte) (skip from : ℕ) → length line ≤ from → left_pieces line skip from ≡ []
no_pieces line skip from end = ap (λ r. drop skip (solid (pieces_of r))) (drop_all from line end) ∙ nothing skip
  where
    nothing : (n : ℕ) → drop n (solid (pieces_of [])) ≡ []
    nothing zero = refl
    nothing (suc n) = refl

pub words_ended : (text : List ℕ) (line : List SourceByte) (words : List Lexeme) (skipped skip from : ℕ) → IsReading text line words skipped skip from
    → length line ≤ from → words ≡ words_of text (left_pieces line skipped 0)
words_ended text line words skipped skip from reading end =
    sym (reading.words_are ∙ (ap (λ ps. words ++ words_of text ps) (no_pieces line skip from end) ∙ append-nil words))

pub failure_ended : (text : List ℕ) (line : List SourceByte) (words : List Lexeme) (skipped skip from : ℕ) → IsReading text line words skipped skip from
    → length line ≤ from → None ≡ failure_of (left_pieces line skipped 0)
failure_ended text line words skipped skip from reading end = sym (reading.failure_is ∙ ap failure_of (no_pieces line skip from end))
