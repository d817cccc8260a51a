-- The end of a line's last solid piece, one piece at a time.
use Rattle.std.proofs.Common.{◌≡◌, ℕ, ◌+◌, ◌-◌, ◌≤◌, true, false, not, List, [], ◌∷◌, length, drop, refl, ap, ◌∙◌}
use Rattle.std.proofs.lemmas.Bool.{cond-true, cond-false}
use Rattle.std.proofs.lemmas.List.{drop_all}
use Rattle.css_lexemes.specs.declared.pieces.Shape.{Shape}
use Rattle.css_lexemes.specs.declared.source.SourceByte.{SourceByte}
use Rattle.css_lexemes.specs.Lexemes.{Piece}
use Rattle.css_lex.specs.Reading.{is_blank_piece, solid, end_of, last_end}
use Rattle.css_lex.specs.Words.{IsPieceAt, piece_in}
use Rattle.css_lexemes.proofs.Erasing.{at_place}
use Rattle.css_lex.proofs.Spelled.{end_in}
use Rattle.css_lex.proofs.WordsRead.{piece_at, piece_some, piece_inside}
use Rattle.css_lex.proofs.LineBreaches.{pieces_in}

-- The end of some pieces, or of what stands before them where there are none.
abbrev pub end_behind : ℕ → List Piece → ℕ
end_behind end [] = end
end_behind end (p ∷ pieces) = last_end (p ∷ pieces)

one_end : (end : ℕ) (p : Piece) (pieces : List Piece) → end_behind end (p ∷ pieces) ≡ end_behind (end_of p) pieces
one_end end p [] = refl
one_end end p (q ∷ pieces) = refl

pub end_blank : (line : List SourceByte) (shape : Shape) (end from to : ℕ) → IsPieceAt line shape from to → is_blank_piece shape ≡ true
    → end_behind end (pieces_in (drop from line)) ≡ end_behind end (pieces_in (drop to line))
end_blank line shape end from to is blank =
    let p = piece_in line shape from to in
    ap (λ ps. end_behind end (solid ps)) (piece_at line shape from to is)
    ∙ ap (end_behind end) (cond-false (not (is_blank_piece shape)) (p ∷ pieces_in (drop to line)) (pieces_in (drop to line)) (ap not blank))

pub end_full : (line : List SourceByte) (shape : Shape) (end from to : ℕ) → IsPieceAt line shape from to → is_blank_piece shape ≡ false
    → end_behind end (pieces_in (drop from line)) ≡ end_behind ((at_place line (to - 1)).place + 1) (pieces_in (drop to line))
end_full line shape end from to is full =
    let p = piece_in line shape from to in
    ap (λ ps. end_behind end (solid ps)) (piece_at line shape from to is)
    ∙ (ap (end_behind end) (cond-true (not (is_blank_piece shape)) (p ∷ pieces_in (drop to line)) (pieces_in (drop to line)) (ap not full))
    ∙ (one_end end p (pieces_in (drop to line))
    ∙ ap (λ e. end_behind e (pieces_in (drop to line))) (end_in line shape from to (piece_some line shape from to is) (piece_inside line shape from to is))))

pub end_last : (line : List SourceByte) (end from : ℕ) → length line ≤ from → end_behind end (pieces_in (drop from line)) ≡ end
end_last line end from past = ap (λ l. end_behind end (pieces_in l)) (drop_all from line past)

pub end_start : (pieces : List Piece) → last_end pieces ≡ end_behind 0 pieces
end_start [] = refl
end_start (p ∷ pieces) = refl
