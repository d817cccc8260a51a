-- What a block, and the blocks of a put or get group, end as once their bytes were lent to a writer.
use Rattle.std.specs.Prelude.{ℕ, List, length}
use Rattle.std.specs.List.{refill}
use Rattle.std.specs.Borrow.{Lends, MutBor, Fml, Array, u8}
use Rattle.css_tags.specs.Blocks.{Contents}
use Rattle.css_tags.specs.contracts.block.Block.{the_row}

-- a block whose bytes are written over; it keeps its length
abbrev pub with_bytes : Contents → List ℕ → Contents
with_bytes block bytes = record block { bytes = refill (length block.bytes) block.bytes bytes }

-- once the borrow r ends, the block has the bytes that r shows last
abbrev pub LendsBytes : MutBor Contents → MutBor (List ℕ) → Fml
LendsBytes block r = Lends the_row (Array u8 0) block r (with_bytes block.now)
