use Rattle.std.proofs.Common.{◌≡◌, ◌≤◌, map, All, length, vec_len, vec_capacity}
use Rattle.css_tags.specs.Groups.{IsMoving, begun_put}
use Rattle.css_tags.proofs.group.Group.put.Given as goal

abbrev pub invariant-loop-item : goal.invariant-loop-item
invariant-loop-item l =
    (l.transfers.items ≡ map (λ p. begun_put p.0) l.yielded) × All IsMoving l.transfers.items
    × (vec_len l.transfers ≡ length l.yielded) × (vec_len l.fn.blocks ≤ vec_capacity l.transfers)
