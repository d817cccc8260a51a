-- Each line has pieces, and has them once.
use Rattle.std.proofs.Common.{◌≡◌, ℕ, zero, suc, ◌-◌, ◌<◌, ◌≤◌, inl, inr, max, true, false, List, [], ◌∷◌, ◌++◌, length, take, drop, refl, sym, ap, ◌∙◌, subst, arith, append_assoc, length-append, length-take, take-append-drop}
use Rattle.std.specs.Prelude.{◌==◌}
use Rattle.std.proofs.lemmas.Bool.{cases_Bool, cases_eq, cond-true, cond-false, eq-eqb, ne_eqb, false_from_ne_true}
use Rattle.std.proofs.lemmas.List.{length-map, take_at, drop_at, length-take-le, nil_from_length, map-append, take-map, drop-map}
use Rattle.css_lexemes.specs.declared.lexeme_class.LexemeClass.{LexemeClass}
use Rattle.css_lexemes.specs.declared.lexeme_class.LexemeClass.TheVariants as classes
use Rattle.css_lexemes.specs.declared.pieces.Shape.{Shape}
use Rattle.css_lexemes.specs.declared.pieces.Shape.TheVariants as shapes
use Rattle.css_lexemes.specs.declared.source.SourceByte.{SourceByte}
use Rattle.css_lexemes.specs.Source.{bytes_of}
use Rattle.css_lexemes.specs.LineKinds.{is_blank}
use Rattle.css_lexemes.specs.Lexemes.{IsOfClass, IsLongest, IsNoFront, HasShape, ConsistsOf, Piece}
use Rattle.css_lexemes.specs.Longest.{class_at, lexeme_length, shape_at, size_at, pieces_from, pieces_of}
use Rattle.css_lexemes.proofs.Foremost.{fits, is_one, blank_none}
use Rattle.css_lexemes.proofs.Punctuators.{punctuator_some}
use Rattle.css_lexemes.proofs.Within.{lexeme_within, size_some}

lexeme_some : (class : LexemeClass) → IsOfClass class [] → ⊥
lexeme_some classes.Identifier is = is
lexeme_some classes.Number is = is
lexeme_some classes.Character is = cc
lexeme_some classes.Text is = cc
lexeme_some classes.Punctuator is = punctuator_some is

no_longer : (class : LexemeClass) (front rest : List ℕ) → IsOfClass class front → length front ≤ lexeme_length (front ++ rest)
no_longer class front rest is = elim (fits class front rest is) [ inl h ↦ h.1 | inr h ↦ omega (arith, h) ]

-- The shape and the size of what a text begins with.
shape_blank : (b : ℕ) (text : List ℕ) → is_blank b ≡ true → shape_at (b ∷ text) ≡ shapes.Blank
shape_blank b text blank = cond-true (is_blank b) _ _ blank

size_blank : (b : ℕ) (text : List ℕ) → is_blank b ≡ true → size_at (b ∷ text) ≡ 1
size_blank b text blank = cond-true (is_blank b) _ _ blank

shape_stray : (b : ℕ) (text : List ℕ) → is_blank b ≡ false → lexeme_length (b ∷ text) ≡ 0 → shape_at (b ∷ text) ≡ shapes.Stray
shape_stray b text solid none = cond-false (is_blank b) _ _ solid ∙ cond-true (lexeme_length (b ∷ text) == 0) _ _ (eq-eqb (lexeme_length (b ∷ text)) 0 none)

size_stray : (b : ℕ) (text : List ℕ) → is_blank b ≡ false → lexeme_length (b ∷ text) ≡ 0 → size_at (b ∷ text) ≡ 1
size_stray b text solid none = cond-false (is_blank b) _ _ solid ∙ (ap (max 1) none ∙ refl)

shape_lexeme : (b : ℕ) (text : List ℕ) → is_blank b ≡ false → 0 < lexeme_length (b ∷ text) → shape_at (b ∷ text) ≡ shapes.Lexeme (class_at (b ∷ text))
shape_lexeme b text solid some =
    cond-false (is_blank b) _ _ solid ∙ cond-false (lexeme_length (b ∷ text) == 0) _ _ (ne_eqb (lexeme_length (b ∷ text)) 0 (λ e. omega (arith, e, some)))

size_lexeme : (b : ℕ) (text : List ℕ) → is_blank b ≡ false → 0 < lexeme_length (b ∷ text) → size_at (b ∷ text) ≡ lexeme_length (b ∷ text)
size_lexeme b text solid some = cond-false (is_blank b) _ _ solid ∙ omega (arith, some)

solid_some : (b : ℕ) (text : List ℕ) → 0 < lexeme_length (b ∷ text) → is_blank b ≡ false
solid_some b text some = false_from_ne_true (is_blank b) (λ blank. omega (arith, some, blank_none b text blank))

-- What holds of a piece in front of a text.
abbrev IsFixed : (shape : Shape) (size : ℕ) (text : List ℕ) → Type 0
IsFixed shape size text = (shape ≡ shape_at text) × (size ≡ size_at text) × (0 < size)

longest_size : (class : LexemeClass) (b : ℕ) (bytes rest : List ℕ) → IsOfClass class (b ∷ bytes) → IsLongest (b ∷ bytes) rest
    → lexeme_length (b ∷ (bytes ++ rest)) ≤ length (b ∷ bytes)
longest_size class b bytes rest is longest =
    let text = b ∷ (bytes ++ rest) in
    let front = b ∷ bytes in
    let n = lexeme_length text in
    let size = length front in
    let enough : size ≤ n = no_longer class front rest is in
    let more = take (n - size) rest in
    let joined : take n text ≡ front ++ more = take_front front rest n enough in
    let one : IsOfClass (class_at text) (front ++ more) = subst (IsOfClass (class_at text)) joined (is_one b (bytes ++ rest) (omega (arith, enough))) in
    let none : more ≡ [] = longest more (drop (n - size) rest) (sym (take-append-drop (n - size) rest)) (class_at text, one) in
    let inside = lexeme_within text in
    let l = length-append front rest in
    let m = ap length joined ∙ length-append front more in
    let z = ap length none in
    let t = length-take n text in
    omega (arith, inside, l, m, z, t)
  where
    take_front : (front rest : List ℕ) (n : ℕ) → length front ≤ n → take n (front ++ rest) ≡ front ++ take (n - length front) rest
    take_front [] rest n enough = ap (λ k. take k rest) (omega arith)
    take_front (b ∷ front) rest zero enough = absurd (omega arith)
    take_front (b ∷ front) rest (suc n) enough = ap (λ r. b ∷ r) (take_front front rest n (omega arith) ∙ ap (λ k. front ++ take k rest) (omega arith))

lexeme_fixed : (class : LexemeClass) (b : ℕ) (bytes rest : List ℕ) → IsOfClass class (b ∷ bytes) → IsLongest (b ∷ bytes) rest
    → IsFixed (shapes.Lexeme class) (length (b ∷ bytes)) (b ∷ (bytes ++ rest))
lexeme_fixed class b bytes rest is longest =
    let text = bytes ++ rest in
    let most = longest_size class b bytes rest is longest in
    elim (fits class (b ∷ bytes) rest is) [
      | inl h ↦
          let some : 0 < lexeme_length (b ∷ text) = omega (arith, h.1) in
          let solid = solid_some b text some in
          (ap shapes.Lexeme h.0 ∙ sym (shape_lexeme b text solid some), omega (arith, h.1, most, size_lexeme b text solid some), omega arith)
      | inr h ↦ absurd (omega (arith, h, most))
    ]

blank_fixed : (b : ℕ) (bytes rest : List ℕ) → bytes ≡ [] → is_blank b ≡ true → IsFixed shapes.Blank (length (b ∷ bytes)) (b ∷ (bytes ++ rest))
blank_fixed b bytes rest none blank =
    (sym (shape_blank b (bytes ++ rest) blank), omega (arith, ap length none, size_blank b (bytes ++ rest) blank), omega arith)

stray_fixed : (b : ℕ) (bytes rest : List ℕ) → bytes ≡ [] → is_blank b ≡ false → IsNoFront (b ∷ (bytes ++ rest)) → IsFixed shapes.Stray (length (b ∷ bytes)) (b ∷ (bytes ++ rest))
stray_fixed b bytes rest none solid nothing =
    let text = bytes ++ rest in
    let n = lexeme_length (b ∷ text) in
    let zero_length : n ≡ 0 =
    elim (cases_eq n 0) [
      | inl z ↦ z
      | inr some ↦
          absurd (nothing (take n (b ∷ text)) (drop n (b ∷ text)) (sym (take-append-drop n (b ∷ text))) (class_at (b ∷ text), is_one b text (omega (arith, some))))
    ] in
    (sym (shape_stray b text solid zero_length), omega (arith, ap length none, size_stray b text solid zero_length), omega arith)

first_same : {A : Type 0} (a b : A) (these those : List A) → a ∷ these ≡ b ∷ those → (a ≡ b) × (these ≡ those)
first_same a b these those e = (cc, cc)

pub fixed : (shape : Shape) (bytes rest : List ℕ) → HasShape shape bytes rest → IsFixed shape (length bytes) (bytes ++ rest)
fixed shapes.Blank [] rest is = absurd (let e : [] ≡ is.0 ∷ [] = is.1 in cc)
fixed shapes.Blank (b ∷ bytes) rest is =
    let e = first_same b is.0 bytes [] is.1 in blank_fixed b bytes rest e.1 (ap is_blank e.0 ∙ is.2)
fixed (shapes.Lexeme class) [] rest is = absurd (lexeme_some class is.0)
fixed (shapes.Lexeme class) (b ∷ bytes) rest is = lexeme_fixed class b bytes rest is.0 is.1
fixed shapes.Stray [] rest is = absurd (let e : [] ≡ is.0 ∷ [] = is.1 in cc)
fixed shapes.Stray (b ∷ bytes) rest is =
    let e = first_same b is.0 bytes [] is.1 in
    stray_fixed b bytes rest e.1 (ap is_blank e.0 ∙ is.2) (subst IsNoFront (sym (ap (λ c. c ∷ (bytes ++ rest)) e.0 ∙ ap (λ l. is.0 ∷ (l ++ rest)) e.1)) is.3)

abbrev IsFront : (shape : Shape) (size : ℕ) (text : List ℕ) → Type 0
IsFront shape size text = HasShape shape (take size text) (drop size text)

stray_nothing : (b : ℕ) (text : List ℕ) → lexeme_length (b ∷ text) ≡ 0 → IsNoFront (b ∷ text)
stray_nothing b text none [] others e one = lexeme_some one.0 one.1
stray_nothing b text none (c ∷ front) others e one =
    let short = no_longer one.0 (c ∷ front) others one.1 in
    omega (arith, short, none, ap lexeme_length e)

lexeme_longest : (b : ℕ) (text : List ℕ) → IsLongest (take (lexeme_length (b ∷ text)) (b ∷ text)) (drop (lexeme_length (b ∷ text)) (b ∷ text))
lexeme_longest b text more others e one =
    let n = lexeme_length (b ∷ text) in
    let front = take n (b ∷ text) in
    let whole : (front ++ more) ++ others ≡ b ∷ text = append_assoc front more others ∙ (ap (λ r. front ++ r) (sym e) ∙ take-append-drop n (b ∷ text)) in
    let short = no_longer one.0 (front ++ more) others one.1 in
    let size = length-take-le n (b ∷ text) (lexeme_within (b ∷ text)) in
    nil_from_length more (omega (arith, short, ap lexeme_length whole, size, length-append front more))

at_size : (shape : Shape) (size : ℕ) (text : List ℕ) → shape_at text ≡ shape → size_at text ≡ size → IsFront shape size text → IsFront (shape_at text) (size_at text) text
at_size shape size text shape_is size_is front =
    subst (λ s. IsFront s (size_at text) text) (sym shape_is) (subst (λ n. IsFront shape n text) (sym size_is) front)

-- A text has the piece in front.
pub has_piece : (b : ℕ) (text : List ℕ) → IsFront (shape_at (b ∷ text)) (size_at (b ∷ text)) (b ∷ text)
has_piece b text =
    let n = lexeme_length (b ∷ text) in
    elim (cases_Bool (is_blank b)) [
      | inl blank ↦ at_size shapes.Blank 1 (b ∷ text) (shape_blank b text blank) (size_blank b text blank) (b, refl, blank)
      | inr solid ↦
          elim (cases_eq n 0) [
            | inl none ↦ at_size shapes.Stray 1 (b ∷ text) (shape_stray b text solid none) (size_stray b text solid none) (b, refl, solid, stray_nothing b text none)
            | inr more ↦
                let some : 0 < n = omega (arith, more) in
                at_size (shapes.Lexeme (class_at (b ∷ text))) n (b ∷ text) (shape_lexeme b text solid some) (size_lexeme b text solid some)
                (is_one b text some, lexeme_longest b text)
          ]
    ]

pub drop_first : {A : Type 0} (n : ℕ) (a : A) (list : List A) → 0 < n → drop n (a ∷ list) ≡ drop (n - 1) list
drop_first zero a list some = absurd (omega arith)
drop_first (suc n) a list some = ap (λ k. drop k list) (omega arith)

-- Each line has pieces.
consists_from : (inside : ℕ) (line : List SourceByte) → ConsistsOf (drop inside line) (pieces_from inside line)
consists_from zero [] = refl
consists_from (suc inside) [] = refl
consists_from (suc inside) (c ∷ line) = consists_from inside line
consists_from zero (c ∷ line) =
    let size = size_at (bytes_of (c ∷ line)) in
    let some = size_some c.byte (bytes_of line) in
    let rest : drop size (c ∷ line) ≡ drop (size - 1) line = drop_first size c line some in
    let front : HasShape (shape_at (bytes_of (c ∷ line))) (bytes_of (take size (c ∷ line))) (bytes_of (drop (size - 1) line)) =
    subst (λ r. HasShape (shape_at (bytes_of (c ∷ line))) (bytes_of (take size (c ∷ line))) (bytes_of r)) rest
    (subst (λ r. HasShape (shape_at (bytes_of (c ∷ line))) r (bytes_of (drop size (c ∷ line)))) (take-map (λ b. b.byte) size (c ∷ line))
    (subst (λ r. HasShape (shape_at (bytes_of (c ∷ line))) (take size (bytes_of (c ∷ line))) r) (drop-map (λ b. b.byte) size (c ∷ line))
    (has_piece c.byte (bytes_of line)))) in
    (drop (size - 1) line, sym (take-append-drop size (c ∷ line)) ∙ ap (λ r. take size (c ∷ line) ++ r) rest, front, consists_from (size - 1) line)

pub consists : (line : List SourceByte) → ConsistsOf line (pieces_of line)
consists line = consists_from 0 line

pub pieces_behind : (inside : ℕ) (line : List SourceByte) → pieces_from inside line ≡ pieces_from 0 (drop inside line)
pieces_behind zero line = refl
pieces_behind (suc inside) [] = refl
pieces_behind (suc inside) (c ∷ line) = pieces_behind inside line

-- The pieces behind one that stands in front.
one_piece : (shape : Shape) (front rest : List SourceByte) → IsFixed shape (length (bytes_of front)) (bytes_of (front ++ rest))
    → pieces_of (front ++ rest) ≡ record { shape = shape; bytes = front } ∷ pieces_of rest
one_piece shape [] rest is = absurd (omega (arith, is.2))
one_piece shape (c ∷ front) rest is =
    let size = size_at (bytes_of ((c ∷ front) ++ rest)) in
    let length_is : length (c ∷ front) ≡ size = sym (length-map (c ∷ front) (λ b. b.byte)) ∙ is.1 in
    let bytes : take size ((c ∷ front) ++ rest) ≡ c ∷ front = take_at (c ∷ front) rest size length_is in
    let behind : drop (size - 1) (front ++ rest) ≡ rest = drop_at front rest (size - 1) (omega (arith, length_is)) in
    ap (λ s. record { shape = s; bytes = take size ((c ∷ front) ++ rest) } ∷ pieces_from (size - 1) (front ++ rest)) (sym is.0)
    ∙ (ap (λ b. record { shape = shape; bytes = b } ∷ pieces_from (size - 1) (front ++ rest)) bytes
    ∙ ap (λ ps. record { shape = shape; bytes = c ∷ front } ∷ ps) (pieces_behind (size - 1) (front ++ rest) ∙ ap (pieces_from 0) behind))

-- A line has no other pieces.
pub only : (line : List SourceByte) (pieces : List Piece) → ConsistsOf line pieces → pieces ≡ pieces_of line
only line [] is = sym (ap pieces_of is)
only line (piece ∷ pieces) is =
    let rest = is.0 in
    let here = fixed piece.shape (bytes_of piece.bytes) (bytes_of rest) is.2 in
    let same : IsFixed piece.shape (length (bytes_of piece.bytes)) (bytes_of (piece.bytes ++ rest)) =
    subst (IsFixed piece.shape (length (bytes_of piece.bytes))) (sym (map-append (λ b. b.byte) piece.bytes rest)) here in
    ap (λ ps. piece ∷ ps) (only rest pieces is.3) ∙ (sym (one_piece piece.shape piece.bytes rest same) ∙ ap pieces_of (sym is.1))
