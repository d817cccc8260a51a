use Rattle.std.proofs.Common.{◌≡◌, ◌≤◌, map, length, vec_len, vec_capacity}
use Rattle.std.specs.List.{flat_map}
use Rattle.css_tags.specs.Groups.{block_of, copy_of}
use Rattle.css_tags.proofs.group.Group.into_parts.Given as goal

abbrev pub invariant-loop-transfer : goal.invariant-loop-transfer
invariant-loop-transfer l =
    (l.blocks.items ≡ map block_of l.yielded) × (vec_len l.blocks ≡ length l.yielded)
    × (length l.fn.self.items ≤ vec_capacity l.blocks)
    × (l.copies.items ≡ flat_map copy_of l.yielded) × (vec_len l.copies ≤ length l.yielded)
    × (length l.fn.self.items ≤ vec_capacity l.copies)
