-- What a transfer keeps, and how contracts see it.
use Rattle.std.specs.Prelude.{ℕ, true, false, [], length}
use Rattle.css_tags.specs.declared.transfer.Other.{Other}
use Rattle.css_tags.specs.declared.transfer.Other.TheVariants.{From, To, Nothing}
use Rattle.css_tags.specs.declared.transfer.Transfer.TheInside.{Inside}
use Rattle.css_tags.specs.Pieces.{pieces}
use Rattle.css_tags.specs.Blocks.{Contents}
use Rattle.css_tags.specs.Groups.{IsWidth, Moving, IsMoving}

-- a transfer, by its other side
abbrev pub moving_by : Other → Contents → ℕ → ℕ → Moving
moving_by (From buffer) block width moved = record {
  put = false;
  planned = record { place = block.place; bytes = buffer; pieces = pieces (length buffer) width };
  moved = moved;
  target = block.bytes;
}
moving_by (To bytes) block width moved = record {
  put = true;
  planned = record { place = block.place; bytes = block.bytes; pieces = pieces (length block.bytes) width };
  moved = moved;
  target = bytes.items;
}
moving_by Nothing block width moved = record {
  put = false;
  planned = record { place = block.place; bytes = block.bytes; pieces = [] };
  moved = moved;
  target = block.bytes;
}

abbrev pub moving : Inside → Moving
moving a = moving_by a.other a.block a.width a.moved

pub record IsTransfer (a : Inside) : Type 0 where
  pub width : IsWidth a.width (length (moving a).planned.bytes)
  pub moving : IsMoving (moving a)
