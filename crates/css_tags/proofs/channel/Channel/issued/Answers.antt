use Rattle.css_tags.proofs.Channels.{queue_tells}
use Rattle.css_tags.proofs.channel.Channel.issued.Goals as goal

pub returns : goal.returns
returns c =
    let a = c.self.inside in
    rw (← c.self.view_is)
    (queue_tells a.history.items a.slots.items a.queue.items c.self.invariant.queued c.is_empty.result c.is_empty.ensures)
