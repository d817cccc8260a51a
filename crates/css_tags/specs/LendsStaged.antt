-- What staged blocks end as once the bytes of one were lent to a writer.
use Rattle.std.specs.Prelude.{ℕ, List, [], slice_set, slice_index_or}
use Rattle.std.specs.Borrow.{Lends, MutBor, Fml, Array, u8}
use Rattle.css_tags.specs.Blocks.{Contents}
use Rattle.css_tags.specs.Staged.{Store}
use Rattle.css_tags.specs.Lends.{with_bytes}
use Rattle.css_tags.specs.contracts.staged.Staged.{the_row}

abbrev pub no_block : Contents
no_block = record { place = record { start = 0; length = 0 }; bytes = [] }

-- the blocks, with the bytes of one written over; the others stay
abbrev pub with_block_bytes : Store → ℕ → List ℕ → Store
with_block_bytes store item bytes =
    record store { blocks = slice_set store.blocks item (with_bytes (slice_index_or store.blocks item no_block) bytes) }

-- once the borrow r ends, the item's block has the bytes that r shows last
abbrev pub LendsItem : MutBor Store → ℕ → MutBor (List ℕ) → Fml
LendsItem store item r = Lends the_row (Array u8 0) store r (with_block_bytes store.now item)
