use Rattle.std.proofs.Common.{◌≡◌, ◌≤◌, replicate, vec_len, vec_capacity}
use Rattle.css_tags.specs.declared.slot.Slot.TheVariants.{Free}
use Rattle.css_tags.proofs.slot.free_slots.Given as goal

abbrev pub invariant-loop-tag : goal.invariant-loop-tag
invariant-loop-tag l =
    (l.slots.items ≡ replicate l.tag Free) × (vec_len l.slots ≡ l.tag) × (32 ≤ vec_capacity l.slots)
