-- What a group of transfers is to do.
use Rattle.std.specs.Prelude.{ℕ, Bool, List}
use Rattle.std.specs.List.{sum_by}
use Rattle.css_place.specs.declared.stretch.Stretch.{Stretch}
use Rattle.css_tags.specs.declared.piece.Piece.{Piece}

-- an item of a group: the place of its block, the bytes that the block has once no piece is left, and all its pieces
pub record Planned : Type 0 where
  pub place : Stretch
  pub bytes : List ℕ
  pub pieces : List Piece

-- whether it is a put group, or else a get group, and its items in order
pub record Plan : Type 0 where
  pub put : Bool
  pub items : List Planned

-- how many bytes are in the pieces of an item, and of a plan
abbrev pub bytes_of : Planned → ℕ
bytes_of item = sum_by (λ (p : Piece). p.length) item.pieces

abbrev pub bytes_in : Plan → ℕ
bytes_in plan = sum_by bytes_of plan.items
