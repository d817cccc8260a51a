use Rattle.std.proofs.Common.{ℕ, ◌<◌, slice_index_or}
use Rattle.css_tags.specs.declared.slot.Slot.TheVariants.{Free}
use Rattle.css_tags.specs.Slots.{IsFreeSlot}
use Rattle.css_tags.proofs.slot.first_free.Given as goal

abbrev pub invariant-loop-tag : goal.invariant-loop-tag
invariant-loop-tag l = (k : ℕ) → k < l.tag → ¬ IsFreeSlot (slice_index_or l.slots k Free)
