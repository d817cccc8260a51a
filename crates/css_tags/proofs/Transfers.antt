-- Transfers of one block.
use Rattle.std.proofs.Common.{◌≡◌, ◌+◌, ◌<◌, ◌≤◌, ℕ, List, [], ◌∷◌, length, refl, sym, ap, ◌∙◌, subst, inl, inr, Some, None, slice_get}
use Rattle.std.proofs.lemmas.Option.{slice_get_within, slice_get_cases}
use Rattle.std.proofs.lemmas.List.{drop_all}
use Rattle.css_tags.specs.declared.piece.Piece.{Piece}
use Rattle.css_tags.specs.declared.transfer.Other.{Other}
use Rattle.css_tags.specs.declared.transfer.Other.TheVariants.{From, To, Nothing}
use Rattle.css_tags.specs.Blocks.{Contents}
use Rattle.css_tags.specs.Pieces.{piece, pieces, count_of_pieces}
use Rattle.css_tags.specs.Groups.{IsWidth, Moving, IsMoving, left_of, with_copied, with_moved}
use Rattle.css_tags.specs.Transfers.{moving_by}
use Rattle.css_tags.proofs.Pieces.{length-pieces, piece_inside}
use Rattle.css_tags.proofs.Moving.{next_is, none_next, first_left, moving_more, copied_same}

-- the piece that comes next, where the item's block has this length
pub next_of : (other : Other) (block : Contents) (width moved count : ℕ)
    → (other ≡ Nothing → ⊥) → IsMoving (moving_by other block width moved)
    → count ≡ count_of_pieces (length block.bytes) width → moved < count
    → slice_get (moving_by other block width moved).planned.pieces (moving_by other block width moved).moved ≡ Some (piece width moved)
next_of (From buffer) block width moved count some moving is below =
    let same : length block.bytes ≡ length buffer = moving.same_length in
    next_is (length buffer) width moved (rw (← same, ← is) below)
next_of (To bytes) block width moved count some moving is below =
    next_is (length block.bytes) width moved (rw (← is) below)
next_of Nothing block width moved count some moving is below = absurd (some refl)

pub none_of : (other : Other) (block : Contents) (width moved count : ℕ)
    → IsMoving (moving_by other block width moved)
    → count ≡ count_of_pieces (length block.bytes) width → count ≤ moved
    → slice_get (moving_by other block width moved).planned.pieces (moving_by other block width moved).moved ≡ None
none_of (From buffer) block width moved count moving is past =
    let same : length block.bytes ≡ length buffer = moving.same_length in
    none_next (length buffer) width moved (rw (← same, ← is) past)
none_of (To bytes) block width moved count moving is past =
    none_next (length block.bytes) width moved (rw (← is) past)
none_of Nothing block width moved count moving is past = refl

-- p is the item's next piece: it lies in the block, and the item is in order once it is moved
pub record HasNext (m : Moving) (p : Piece) : Type 0 where
  pub inside : p.start + p.length ≤ length m.planned.bytes
  pub first : left_of m ≡ p ∷ left_of (with_moved p m)
  pub moved : IsMoving (with_moved p m)

-- what holds of the next piece, where the item has pieces
has_next : (m : Moving) (width : ℕ) (p : Piece) → IsWidth width (length m.planned.bytes)
    → m.planned.pieces ≡ pieces (length m.planned.bytes) width → IsMoving m
    → slice_get m.planned.pieces m.moved ≡ Some p → HasNext m p
has_next m width p is parts moving next =
    let bytes = length m.planned.bytes in
    let there : slice_get (pieces bytes width) m.moved ≡ Some p = rw (← parts) next in
    let within : m.moved < length (pieces bytes width) = slice_get_within (pieces bytes width) m.moved p there in
    let below : m.moved < count_of_pieces bytes width = rw (← length-pieces bytes width) within in
    let same : piece width m.moved ≡ p = (let found = next_is bytes width m.moved below in cc) in
    let At : Piece → Type 0 = HasNext m in
    subst At same (record {
      inside = piece_inside bytes width m.moved is below;
      first = rw parts (first_left bytes width m.moved below);
      moved = moving_more m width is parts moving below;
    })

pub next_facts : (other : Other) (block : Contents) (width moved : ℕ) (p : Piece)
    → IsWidth width (length (moving_by other block width moved).planned.bytes)
    → IsMoving (moving_by other block width moved)
    → slice_get (moving_by other block width moved).planned.pieces (moving_by other block width moved).moved ≡ Some p
    → HasNext (moving_by other block width moved) p
next_facts (From buffer) block width moved p is moving next =
    has_next (moving_by (From buffer) block width moved) width p is refl moving next
next_facts (To bytes) block width moved p is moving next =
    has_next (moving_by (To bytes) block width moved) width p is refl moving next
next_facts Nothing block width moved p is moving next = absurd cc

-- what is planned, and what the bytes are, doesn't hang on how many pieces are moved
pub moved_on : (other : Other) (block : Contents) (width moved : ℕ) (p : Piece)
    → with_copied p (moving_by other block width (moved + 1)) ≡ with_moved p (moving_by other block width moved)
moved_on (From buffer) block width moved p = refl
moved_on (To bytes) block width moved p = refl
moved_on Nothing block width moved p = refl

pub moved_is : (other : Other) (block : Contents) (width moved : ℕ) → (moving_by other block width moved).moved ≡ moved
moved_is (From buffer) block width moved = refl
moved_is (To bytes) block width moved = refl
moved_is Nothing block width moved = refl

pub same_target : (other : Other) (block : Contents) (width moved : ℕ)
    → (moving_by other block 1 0).target ≡ (moving_by other block width moved).target
same_target (From buffer) block width moved = refl
same_target (To bytes) block width moved = refl
same_target Nothing block width moved = refl

pub same_bytes : (other : Other) (block : Contents) (width moved : ℕ)
    → (moving_by other block 1 0).planned.bytes ≡ (moving_by other block width moved).planned.bytes
same_bytes (From buffer) block width moved = refl
same_bytes (To bytes) block width moved = refl
same_bytes Nothing block width moved = refl

-- an item with no next piece has none left
pub none_left : (m : Moving) → slice_get m.planned.pieces m.moved ≡ None → left_of m ≡ []
none_left m none =
    elim (slice_get_cases m.planned.pieces m.moved).1 [
      | inl found ↦ absurd (let there = found.2 in cc)
      | inr past ↦ drop_all m.moved m.planned.pieces past.0
    ]

-- a transfer after its next piece is copied
pub copied_is : (other other' : Other) (block block' : Contents) (width moved : ℕ) (p : Piece)
    → ((w n : ℕ) → moving_by other' block' w n ≡ with_copied p (moving_by other block w n))
    → moving_by other' block' width (moved + 1) ≡ with_moved p (moving_by other block width moved)
copied_is other other' block block' width moved p copied =
    copied width (moved + 1) ∙ moved_on other block width moved p

-- a block that stays as it is, copied over itself
pub still_copied : (block : Contents) (p : Piece) → p.start + p.length ≤ length block.bytes
    → (width moved : ℕ) → moving_by Nothing block width moved ≡ with_copied p (moving_by Nothing block width moved)
still_copied block p within width moved =
    let m : Moving = moving_by Nothing block width moved in
    ap (λ (bytes : List ℕ). let n : Moving = record m { target = bytes } in n) (sym (copied_same p block.bytes within))
