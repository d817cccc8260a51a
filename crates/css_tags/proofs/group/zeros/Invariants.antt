use Rattle.std.proofs.Common.{◌≡◌, ◌≤◌, map, take, length, replicate, vec_len, vec_capacity}
use Rattle.css_tags.proofs.group.zeros.Given as goal

abbrev pub invariant-loop-block : goal.invariant-loop-block
invariant-loop-block l =
    (map (λ z. z.items) l.targets.items ≡ map (λ p. replicate (length p.0.bytes) 0) (take l.block-index l.blocks))
    × (vec_len l.targets ≡ l.block-index) × (length l.blocks ≤ vec_capacity l.targets)
