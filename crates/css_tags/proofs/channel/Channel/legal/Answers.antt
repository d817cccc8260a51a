use Rattle.std.proofs.Common.{get_or}
use Rattle.css_tags.specs.declared.slot.Slot.TheVariants.{Free}
use Rattle.css_tags.proofs.Tags.{history_legal}
use Rattle.css_tags.proofs.channel.Channel.legal.Goals as goal

pub returns : goal.returns
returns c =
    let a = c.self.inside in
    rw (← c.self.view_is)
    (history_legal a.history.items c.self.invariant.tags (λ tag. get_or a.slots.items tag Free) c.self.invariant.each)
