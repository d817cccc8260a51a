use Rattle.css_tags.proofs.Channels.{least_free, no_free}
use Rattle.css_tags.proofs.channel.Channel.free_tag.Goals as goal

pub returns-clause-least : goal.returns-clause-least
returns-clause-least c =
    let a = c.self.inside in
    let says = rw c.as_slice.ensures.value at c.first_free.ensures in
    rw (← c.self.view_is)
    (least_free a.history.items a.slots.items c.first_free.result c.self.invariant.each says.below says.free says.least)

pub returns-clause-none : goal.returns-clause-none
returns-clause-none c =
    let a = c.self.inside in
    let says = rw c.as_slice.ensures.value at c.first_free.ensures in
    rw (← c.self.view_is) (no_free a.history.items a.slots.items c.first_free.result c.self.invariant.each says.none)
