-- How far an item is moved.
use Rattle.std.proofs.Common.{◌≡◌, ◌+◌, ◌-◌, ◌<◌, ◌≤◌, ℕ, suc, Bool, List, [], ◌∷◌, ◌++◌, length, take, drop, arith, refl, sym, ap, ◌∙◌, inl, inr, Some, None, slice_get, length-append, length-drop}
use Rattle.std.specs.List.{sum_by}
use Rattle.std.proofs.lemmas.List.{take_all, length-take-le, append_assoc, take-append-drop}
use Rattle.std.proofs.lemmas.List.FromFn.{get_or-map-range_with_len}
use Rattle.std.proofs.lemmas.Option.{slice_get-get_or, slice_get_cases}
use Rattle.std.proofs.Math.Seq.{take-add, drop-cons, take-append_seam}
use Rattle.css_tags.specs.declared.piece.Piece.{Piece}
use Rattle.css_tags.specs.Pieces.{piece, pieces, count_of_pieces, copied}
use Rattle.css_tags.specs.Plans.{Planned}
use Rattle.css_tags.specs.Groups.{IsWidth, Moving, IsMoving, reached, left_of, with_moved}
use Rattle.css_tags.proofs.Pieces.{sum_pieces, sum_taken, length-pieces, next_piece, piece_inside}

abbrev sum_of : List Piece → ℕ
sum_of ps = sum_by (λ (p : Piece). p.length) ps

-- a list that nothing is left of is no longer than what is dropped
all_dropped : (n : ℕ) (ps : List Piece) → drop n ps ≡ [] → length ps ≤ n
all_dropped n ps none =
    let rest : length (drop n ps) ≡ length ps - n = length-drop n ps in
    let nothing : length (drop n ps) ≡ 0 = ap length none in
    omega (arith, rest, nothing)

-- once no piece is left, all bytes are copied, where the pieces have them all
whole_from_copied : (m : Moving) → length m.target ≡ length m.planned.bytes
    → sum_of m.planned.pieces ≡ length m.planned.bytes
    → take (reached m) m.target ≡ take (reached m) m.planned.bytes
    → left_of m ≡ [] → m.target ≡ m.planned.bytes
whole_from_copied m same total copied none =
    let all : take m.moved m.planned.pieces ≡ m.planned.pieces =
    take_all m.moved m.planned.pieces (all_dropped m.moved m.planned.pieces none) in
    let most : reached m ≡ length m.planned.bytes = ap sum_of all ∙ total in
    sym (take_all (reached m) m.target (omega (arith, same, most))) ∙ copied
    ∙ take_all (reached m) m.planned.bytes (omega (arith, most))

-- an item that has no pieces, and whose block has the planned bytes
pub moving_still : (put : Bool) (planned : Planned) → planned.pieces ≡ []
    → IsMoving (record { put = put; planned = planned; moved = 0; target = planned.bytes })
moving_still put planned none = record {
  same_length = refl;
  number = omega arith;
  copied = refl;
  whole = λ _. refl;
}

-- an item of which nothing is moved
pub moving_first : (m : Moving) (width : ℕ) → IsWidth width (length m.planned.bytes)
    → m.planned.pieces ≡ pieces (length m.planned.bytes) width
    → length m.target ≡ length m.planned.bytes → m.moved ≡ 0 → IsMoving m
moving_first m width is parts same first =
    let total : sum_of m.planned.pieces ≡ length m.planned.bytes =
    ap sum_of parts ∙ sum_pieces (length m.planned.bytes) width is in
    let none : reached m ≡ 0 = ap (λ n. sum_of (take n m.planned.pieces)) first in
    let start : take (reached m) m.target ≡ take (reached m) m.planned.bytes =
    ap (λ n. take n m.target) none ∙ sym (ap (λ n. take n m.planned.bytes) none) in
    record {
      same_length = same;
      number = omega (arith, first);
      copied = start;
      whole = whole_from_copied m same total start;
    }

-- the first bytes after a copy, where those before it were the same
first_bytes : (s l : ℕ) (b t : List ℕ) → length t ≡ length b → s + l ≤ length b → take s t ≡ take s b
    → take (s + l) (take s t ++ (take l (drop s b) ++ drop (s + l) t)) ≡ take (s + l) b
first_bytes s l b t same within front =
    let first : length (take s t) ≡ s = length-take-le s t (omega arith) in
    let rest : length (drop s b) ≡ length b - s = length-drop s b in
    let middle : length (take l (drop s b)) ≡ l = length-take-le l (drop s b) (omega (arith, rest)) in
    let both = take s t ++ take l (drop s b) in
    let long : length both ≡ s + l = length-append (take s t) (take l (drop s b)) ∙ omega (arith, first, middle) in
    ap (take (s + l)) (sym (append_assoc (take s t) (take l (drop s b)) (drop (s + l) t)))
    ∙ (ap (λ n. take n (both ++ drop (s + l) t)) (sym long) ∙ take-append_seam both (drop (s + l) t))
    ∙ ap (λ front. front ++ take l (drop s b)) front
    ∙ sym (take-add s l b)

-- a copy keeps the length
pub length-copied : (p : Piece) (b t : List ℕ) → length t ≡ length b → p.start + p.length ≤ length b
    → length (copied p b t) ≡ length b
length-copied p b t same within =
    let s = p.start in
    let e = p.start + p.length in
    let first : length (take s t) ≡ s = length-take-le s t (omega arith) in
    let rest : length (drop s b) ≡ length b - s = length-drop s b in
    let span : e - s ≤ length (drop s b) = omega (arith, rest) in
    let middle : length (take (e - s) (drop s b)) ≡ e - s = length-take-le (e - s) (drop s b) span in
    let last : length (drop e t) ≡ length t - e = length-drop e t in
    length-append (take s t) (take (e - s) (drop s b) ++ drop e t)
    ∙ ap (λ n. length (take s t) + n) (length-append (take (e - s) (drop s b)) (drop e t))
    ∙ omega (arith, first, middle, last)

-- the next piece is the first of those that are left
pub next_is : (bytes width n : ℕ) → n < count_of_pieces bytes width
    → slice_get (pieces bytes width) n ≡ Some (piece width n)
next_is bytes width n below =
    let p : Piece = piece width n in
    slice_get-get_or (pieces bytes width) n p (rw (length-pieces bytes width) below)
    ∙ ap Some (get_or-map-range_with_len (piece width) 0 (count_of_pieces bytes width) n n p below (omega arith))

pub none_next : (bytes width n : ℕ) → count_of_pieces bytes width ≤ n → slice_get (pieces bytes width) n ≡ None
none_next bytes width n past =
    elim (slice_get_cases (pieces bytes width) n).1 [
      | inl found ↦
          let long = length-pieces bytes width in
          let below : n < length (pieces bytes width) = found.1 in
          absurd (omega (arith, long, below))
      | inr none ↦ none.1
    ]

pub first_left : (bytes width n : ℕ) → n < count_of_pieces bytes width
    → drop n (pieces bytes width) ≡ piece width n ∷ drop (n + 1) (pieces bytes width)
first_left bytes width n below =
    let p : Piece = piece width n in
    drop-cons (pieces bytes width) n p (rw (length-pieces bytes width) below)
    ∙ ap (λ x. x ∷ drop (suc n) (pieces bytes width))
    (get_or-map-range_with_len (piece width) 0 (count_of_pieces bytes width) n n p below (omega arith))
    ∙ (let next : suc n ≡ n + 1 = omega arith in ap (λ k. p ∷ drop k (pieces bytes width)) next)

-- an item after its next piece is moved
pub moving_more : (m : Moving) (width : ℕ) → IsWidth width (length m.planned.bytes)
    → m.planned.pieces ≡ pieces (length m.planned.bytes) width → IsMoving m
    → m.moved < count_of_pieces (length m.planned.bytes) width → IsMoving (with_moved (piece width m.moved) m)
moving_more m width is parts moving below =
    let bytes = m.planned.bytes in
    let p : Piece = piece width m.moved in
    let total : sum_of m.planned.pieces ≡ length bytes = ap sum_of parts ∙ sum_pieces (length bytes) width is in
    let inside : p.start + p.length ≤ length bytes = piece_inside (length bytes) width m.moved is below in
    let same : length m.target ≡ length bytes = moving.same_length in
    let before : reached m ≡ p.start =
    ap (λ ps. sum_of (take m.moved ps)) parts ∙ sum_taken (length bytes) width m.moved is.least (omega arith) in
    let after : reached (with_moved p m) ≡ p.start + p.length =
    ap (λ ps. sum_of (take (m.moved + 1) ps)) parts
    ∙ sum_taken (length bytes) width (m.moved + 1) is.least (omega arith) ∙ next_piece width m.moved is.least in
    let long = length-copied p bytes m.target same inside in
    let front : take p.start m.target ≡ take p.start bytes = rw (← before) moving.copied in
    let span : p.start + p.length - p.start ≡ p.length = omega arith in
    let now : take (reached (with_moved p m)) (copied p bytes m.target) ≡ take (reached (with_moved p m)) bytes =
    rw (after, span) (first_bytes p.start p.length bytes m.target same inside front) in
    record {
      same_length = long;
      number = rw (parts, length-pieces (length bytes) width) (omega arith);
      copied = now;
      whole = whole_from_copied (with_moved p m) long total now;
    }

-- a list copied over itself
pub copied_same : (p : Piece) (b : List ℕ) → p.start + p.length ≤ length b → copied p b b ≡ b
copied_same p b within =
    let s = p.start in
    let e = p.start + p.length in
    let span : s + (e - s) ≡ e = omega arith in
    sym (append_assoc (take s b) (take (e - s) (drop s b)) (drop e b))
    ∙ ap (λ front. front ++ drop e b) (sym (take-add s (e - s) b) ∙ ap (λ n. take n b) span)
    ∙ take-append-drop e b
