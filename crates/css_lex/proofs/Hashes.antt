-- The `#` of a `#` line.
use Rattle.std.proofs.Common.{◌≡◌, ℕ, suc, ◌+◌, ◌-◌, ◌<◌, inl, inr, true, false, not, List, [], ◌∷◌, length, take, drop, refl, sym, ap, ◌∙◌, arith, length-drop}
use Rattle.std.specs.Prelude.{codes, nat_eq}
use Rattle.std.specs.List.{prefix_len}
use Rattle.std.proofs.lemmas.Bool.{cases_Bool, both_ways, cond-true, cond-false, eqb-true, and_parts}
use Rattle.std.proofs.lemmas.List.{drop-map, drop_more}
use Rattle.std.proofs.lemmas.List.Folds.{length-prefix_len}
use Rattle.css_lexemes.specs.declared.line_kind.LineKind.TheVariants as kinds
use Rattle.css_lexemes.specs.declared.pieces.Shape.TheVariants as shapes
use Rattle.css_lexemes.specs.declared.source.SourceByte.{SourceByte}
use Rattle.css_lexemes.specs.Source.{begins_with, bytes_of}
use Rattle.css_lexemes.specs.LineKinds.{is_blank, behind_blanks, line_kind}
use Rattle.css_lexemes.specs.Lexemes.{Piece}
use Rattle.css_lexemes.specs.Longest.{shape_at, size_at, pieces_of, pieces_from}
use Rattle.css_lex.specs.Reading.{is_blank_piece, solid, from_solid, first_place}
use Rattle.css_lexemes.proofs.Erasing.{at_place}
use Rattle.css_lex.proofs.LineBreaches.{pieces_in}

abbrev pub blanks : List SourceByte → ℕ
blanks line = prefix_len is_blank (bytes_of line)

pub blank_piece : (c : SourceByte) (line : List SourceByte) → is_blank c.byte ≡ true
    → pieces_of (c ∷ line) ≡ record { shape = shapes.Blank; bytes = c ∷ [] } ∷ pieces_of line
blank_piece c line blank =
    let shape : shape_at (bytes_of (c ∷ line)) ≡ shapes.Blank = cond-true (is_blank c.byte) _ _ blank in
    let size : size_at (bytes_of (c ∷ line)) ≡ 1 = cond-true (is_blank c.byte) _ _ blank in
    ap (λ s. record { shape = s; bytes = take (size_at (bytes_of (c ∷ line))) (c ∷ line) } ∷ pieces_from (size_at (bytes_of (c ∷ line)) - 1) line) shape
    ∙ ap (λ n. record { shape = shapes.Blank; bytes = take n (c ∷ line) } ∷ pieces_from (n - 1) line) size

pub one_more : (n : ℕ) → 1 + n ≡ suc n
one_more n = omega arith

-- White space in front has no solid piece.
pub from_blanks : (line : List SourceByte) → from_solid (pieces_of line) ≡ from_solid (pieces_of (drop (blanks line) line))
from_blanks [] = refl
from_blanks (c ∷ line) =
    elim (cases_Bool (is_blank c.byte)) [
      | inl blank ↦
          ap from_solid (blank_piece c line blank)
          ∙ (from_blanks line
          ∙ sym (ap (λ n. from_solid (pieces_of (drop n (c ∷ line)))) (cond-true (is_blank c.byte) (1 + blanks line) 0 blank ∙ one_more (blanks line))))
      | inr other ↦ sym (ap (λ n. from_solid (pieces_of (drop n (c ∷ line)))) (cond-false (is_blank c.byte) _ _ other))
    ]

pub solid_from : (pieces : List Piece) → solid (from_solid pieces) ≡ solid pieces
solid_from [] = refl
solid_from (p ∷ pieces) =
    elim (cases_Bool (is_blank_piece p.shape)) [
      | inl blank ↦
          ap solid (cond-true (is_blank_piece p.shape) (from_solid pieces) (p ∷ pieces) blank)
          ∙ (solid_from pieces ∙ sym (cond-false (not (is_blank_piece p.shape)) (p ∷ solid pieces) (solid pieces) (ap not blank)))
      | inr other ↦ ap solid (cond-false (is_blank_piece p.shape) (from_solid pieces) (p ∷ pieces) other)
    ]

pub solid_blanks : (line : List SourceByte) → pieces_in line ≡ pieces_in (drop (blanks line) line)
solid_blanks line = sym (solid_from (pieces_of line)) ∙ (ap solid (from_blanks line) ∙ solid_from (pieces_of (drop (blanks line) line)))

hash_piece : (c : SourceByte) (line : List SourceByte) → c.byte ≡ 35
    → pieces_of (c ∷ line) ≡ record { shape = shapes.Stray; bytes = c ∷ [] } ∷ pieces_of line
hash_piece c line hash =
    let text = bytes_of line in
    let shape : shape_at (bytes_of (c ∷ line)) ≡ shapes.Stray = ap (λ b. shape_at (b ∷ text)) hash in
    let size : size_at (bytes_of (c ∷ line)) ≡ 1 = ap (λ b. size_at (b ∷ text)) hash in
    ap (λ s. record { shape = s; bytes = take (size_at (bytes_of (c ∷ line))) (c ∷ line) } ∷ pieces_from (size_at (bytes_of (c ∷ line)) - 1) line) shape
    ∙ ap (λ n. record { shape = shapes.Stray; bytes = take n (c ∷ line) } ∷ pieces_from (n - 1) line) size

-- A line of another kind than text has a `#` behind its white space.
hash_begins : (text : List ℕ) → (line_kind text ≡ kinds.Text → ⊥) → begins_with (codes "#") (behind_blanks text) ≡ true
hash_begins text other =
    elim (cases_Bool (begins_with (codes "#") (behind_blanks text))) [
      | inl holds ↦ holds
      | inr fails ↦ absurd (other (cond-false (begins_with (codes "#") (behind_blanks text)) _ _ fails))
    ]

first_is : (text : List ℕ) → begins_with (codes "#") text ≡ true → (rest : List ℕ) × (text ≡ 35 ∷ rest)
first_is [] holds = absurd (both_ways false refl holds)
first_is (b ∷ rest) holds = let h = and_parts (nat_eq 35 b) true holds in (rest, ap (λ c. c ∷ rest) (sym (eqb-true 35 b h.0)))

line_first : (line : List SourceByte) (rest : List ℕ) → bytes_of line ≡ 35 ∷ rest
    → (c : SourceByte) × (others : List SourceByte) × (line ≡ c ∷ others) × (c.byte ≡ 35)
line_first [] rest is = absurd cc
line_first (c ∷ others) rest is = (c, others, refl, cc)

pub record HasHash (line : List SourceByte) : Type 0 where
  pub inside : blanks line < length line
  pub byte : (at_place line (blanks line)).byte ≡ 35
  pub pieces : pieces_in line ≡ record { shape = shapes.Stray; bytes = at_place line (blanks line) ∷ [] } ∷ pieces_in (drop (blanks line + 1) line)

behind_drop : (line : List SourceByte) → behind_blanks (bytes_of line) ≡ bytes_of (drop (blanks line) line)
behind_drop line =
    ap (λ n. drop n (bytes_of line)) (length-prefix_len is_blank (bytes_of line)) ∙ drop-map (λ b. b.byte) (blanks line) line

inside_some : (line : List SourceByte) (n : ℕ) (c : SourceByte) (others : List SourceByte) → drop n line ≡ c ∷ others → n < length line
inside_some line n c others is = let l = length-drop n line in let e = ap length is in omega (arith, l, e)

head_same : (a b : SourceByte) (these those : List SourceByte) → a ∷ these ≡ b ∷ those → a ≡ b
head_same a b these those e = cc

pub has_hash : (line : List SourceByte) → (line_kind (bytes_of line) ≡ kinds.Text → ⊥) → HasHash line
has_hash line other =
    let n = blanks line in
    let text = first_is (behind_blanks (bytes_of line)) (hash_begins (bytes_of line) other) in
    let first = line_first (drop n line) text.0 (sym (behind_drop line) ∙ text.1) in
    let c = first.0 in
    let inside = inside_some line n c first.1 first.2 in
    let more = drop_more line n (record { byte = 0; place = 0 }) inside in
    let same : at_place line n ≡ c = head_same (at_place line n) c (drop (n + 1) line) first.1 (sym more ∙ first.2) in
    let byte : (at_place line n).byte ≡ 35 = ap (λ b. b.byte) same ∙ first.3 in
    record {
      inside = inside;
      byte = byte;
      pieces = solid_blanks line ∙ (ap pieces_in more ∙ ap solid (hash_piece (at_place line n) (drop (n + 1) line) byte));
    }

pub hash_is : (line : List SourceByte) → (line_kind (bytes_of line) ≡ kinds.Text → ⊥) → first_place (pieces_in line) ≡ (at_place line (blanks line)).place
hash_is line other = ap first_place (has_hash line other).pieces
