use Rattle.std.proofs.Common.{get_or}
use Rattle.css_tags.specs.declared.slot.Slot.TheVariants.{Free}
use Rattle.css_tags.proofs.Tags.{finished_from_slot, slot_from_finished}
use Rattle.css_tags.proofs.channel.Channel.finished.Goals as goal

pub returns : goal.returns
returns c =
    let a = c.self.inside in
    let tag = c.args.tag in
    let slot = get_or a.slots.items tag Free in
    let is = c.self.invariant.each tag c.requires in
    let tells = rw c.as_slice.ensures.value at c.is_finished.ensures in
    rw (← c.self.view_is) (
      λ yes. finished_from_slot a.history.items tag slot is (tells.0 yes),
      λ done. tells.1 (slot_from_finished a.history.items tag slot is done),
    )
