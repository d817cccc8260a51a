-- The pieces in which the bytes of a block are moved.
use Rattle.std.specs.Prelude.{◌+◌, ◌-◌, ◌*◌, ◌/◌, ◌%◌, ℕ, List, ◌++◌, take, drop, map, min, slice_range}
use Rattle.std.specs.Int.{div_ceil}
use Rattle.std.specs.List.{range_with_len}
use Rattle.css_tags.specs.declared.piece.Piece.{Piece}

-- a row is parted into as few pieces as there can be of at most 16,384 bytes
abbrev pub pieces_of_row : ℕ → ℕ
pieces_of_row width = div_ceil width 16384

-- of a block in rows of this width, piece n stands in row n / k, with k pieces in a row, and is piece n % k there;
-- it has 16,384 bytes, or what is left of its row
unfoldable pub piece : ℕ → ℕ → Piece
piece width n =
    let k = pieces_of_row width in
    record { start = n / k * width + n % k * 16384; length = min 16384 (width - n % k * 16384) }

-- how many pieces a block of so many bytes has
unfoldable pub count_of_pieces : ℕ → ℕ → ℕ
count_of_pieces bytes width = bytes / width * pieces_of_row width

-- the pieces of a block of so many bytes, in order
abbrev pub pieces : ℕ → ℕ → List Piece
pieces bytes width = map (piece width) (range_with_len 0 (count_of_pieces bytes width))

-- the second list, once the piece's bytes of the first are copied over its own
abbrev pub copied : Piece → List ℕ → List ℕ → List ℕ
copied p source target =
    take p.start target ++ (slice_range source p.start (p.start + p.length) ++ drop (p.start + p.length) target)
