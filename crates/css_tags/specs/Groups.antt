-- Groups of transfers, before and while their pieces are moved.
use Rattle.std.specs.Prelude.{◌≡◌, ◌+◌, ◌<◌, ◌≤◌, ◌%◌, ℕ, Bool, true, false, List, [], ◌++◌, ◌∷◌, length, map, take, drop, replicate, All, if◌then◌else◌, Some, slice_get, slice_set, slice_range}
use Rattle.std.specs.List.{flat_map, sum_by}
use Rattle.css_tags.specs.declared.piece.Piece.{Piece}
use Rattle.css_tags.specs.declared.item.Item.{Item}
use Rattle.css_tags.specs.declared.item.Item.TheVariants.{From, Fresh, Kept}
use Rattle.css_tags.specs.Pieces.{pieces, copied}
use Rattle.css_tags.specs.Plans.{Planned, Plan}
use Rattle.css_tags.specs.Blocks.{Contents}

-- a row of this width is at least 1 byte, and so many bytes are whole rows
pub record IsWidth (width bytes : ℕ) : Type 0 where
  pub least : 1 ≤ width
  pub whole : bytes % width ≡ 0

-- the buffer of an item is as long as its block, which has whole rows
abbrev pub IsItem : Item → Type 0
IsItem (From buffer block width) = (length buffer ≡ length block.bytes) × IsWidth width (length block.bytes)
IsItem (Fresh block) = Unit {0}
IsItem (Kept block) = Unit {0}

-- a put group's block has whole rows
abbrev pub IsPutItem : Contents × ℕ → Type 0
IsPutItem (block, width) = IsWidth width (length block.bytes)

-- what a get group does with an item: its block gets the buffer's bytes, or zeros, or stays as it is
abbrev pub planned_get : Item → Planned
planned_get (From buffer block width) =
    record { place = block.place; bytes = buffer; pieces = pieces (length buffer) width }
planned_get (Fresh block) = record { place = block.place; bytes = replicate (length block.bytes) 0; pieces = [] }
planned_get (Kept block) = record { place = block.place; bytes = block.bytes; pieces = [] }

-- the bytes of an item's block before a piece is moved
abbrev pub bytes_at_first : Item → List ℕ
bytes_at_first (From buffer block width) = block.bytes
bytes_at_first (Fresh block) = replicate (length block.bytes) 0
bytes_at_first (Kept block) = block.bytes

-- what a put group does with a block, given with its width: the block stays as it is
abbrev pub planned_put : Contents × ℕ → Planned
planned_put (block, width) =
    record { place = block.place; bytes = block.bytes; pieces = pieces (length block.bytes) width }

-- An item on its way: how many of its pieces are moved, and the bytes that they are moved to.
-- Those are the block's own in a get group, and a buffer's in a put group.
pub record Moving : Type 0 where
  pub put : Bool
  pub planned : Planned
  pub moved : ℕ
  pub target : List ℕ

-- an item of which nothing is moved
abbrev pub begun_get : Item → Moving
begun_get item = record { put = false; planned = planned_get item; moved = 0; target = bytes_at_first item }

abbrev pub begun_put : Contents × ℕ → Moving
begun_put (block, width) =
    record { put = true; planned = planned_put (block, width); moved = 0; target = replicate (length block.bytes) 0 }

-- a group on its way
pub record Underway : Type 0 where
  pub put : Bool
  pub items : List Moving

abbrev pub plan_of : Underway → Plan
plan_of group = record { put = group.put; items = map (λ m. m.planned) group.items }

-- how many bytes of an item are moved
abbrev pub reached : Moving → ℕ
reached m = sum_by (λ (p : Piece). p.length) (take m.moved m.planned.pieces)

-- the pieces of an item, or of a group, that aren't moved, in order
abbrev pub left_of : Moving → List Piece
left_of m = drop m.moved m.planned.pieces

abbrev pub left : Underway → List Piece
left group = flat_map left_of group.items

-- the block of an item as it is now
abbrev pub block_of : Moving → Contents
block_of m = record { place = m.planned.place; bytes = if m.put then m.planned.bytes else m.target }

abbrev pub blocks_of : Underway → List Contents
blocks_of group = map block_of group.items

-- in a put group the copy of an item's bytes, as it is now
abbrev pub copy_of : Moving → List (List ℕ)
copy_of m = if m.put then m.target ∷ [] else []

-- the item once the piece's bytes are copied
abbrev pub with_copied : Piece → Moving → Moving
with_copied p m = record m { target = copied p m.planned.bytes m.target }

-- the item once its piece p, the next one, is moved
abbrev pub with_moved : Piece → Moving → Moving
with_moved p m = record (with_copied p m) { moved = m.moved + 1 }

-- p is the first piece of the group that isn't moved, and was moved
pub record MovesNext (old new : Underway) (p : Piece) : Type 0 where
  pub same_side : new.put ≡ old.put
  pub first : left old ≡ p ∷ left new
  pub item : (before after : List Moving) × (m : Moving) × (flat_map left_of before ≡ [])
      × (left_of m ≡ p ∷ left_of (with_moved p m))
      × (old.items ≡ before ++ m ∷ after) × (new.items ≡ before ++ with_moved p m ∷ after)

-- the block of an item once no piece is left
abbrev pub block_after : Planned → Contents
block_after item = record { place = item.place; bytes = item.bytes }

-- the bytes of the pieces that are moved are copied; once no piece is left, the bytes are the planned ones
pub record IsMoving (m : Moving) : Type 0 where
  pub same_length : length m.target ≡ length m.planned.bytes
  pub number : m.moved ≤ length m.planned.pieces
  pub copied : take (reached m) m.target ≡ take (reached m) m.planned.bytes
  pub whole : left_of m ≡ [] → m.target ≡ m.planned.bytes

-- a transfer steps: one is the first that has a piece left, from number next on, and moves its next piece
pub record StepsAt (old new : List Moving) (next index : ℕ) : Type 0 where
  pub from : next ≤ index
  pub below : index < length old
  pub passed : flat_map left_of (slice_range old next index) ≡ []
  pub item : (m : Moving) × (p : Piece) × (slice_get old index ≡ Some m)
      × (left_of m ≡ p ∷ left_of (with_moved p m)) × (new ≡ slice_set old index (with_moved p m))

-- the items of a group, of which those before number next have no piece left
pub record IsGroup (group : Underway) (next : ℕ) : Type 0 where
  pub moving : All IsMoving group.items
  pub sides : All (λ m. m.put ≡ group.put) group.items
  pub number : next ≤ length group.items
  pub passed : flat_map left_of (take next group.items) ≡ []

-- room for so many blocks and copies, in two lists that are empty
pub record HasRoom (group : Underway) (blocks block_room copies copy_room : ℕ) : Type 0 where
  pub no_block : blocks ≡ 0
  pub for_blocks : length group.items ≤ block_room
  pub no_copy : copies ≡ 0
  pub for_copies : length group.items ≤ copy_room
