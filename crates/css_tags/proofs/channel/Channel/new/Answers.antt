use Rattle.css_tags.proofs.Channels.{channel_new}
use Rattle.css_tags.proofs.channel.Channel.new.Goals as goal

pub invariant_of-result : goal.invariant_of-result
invariant_of-result c = rw (c.in_ok-slots.ensures, c.new.ensures.items, c.new-2.ensures) (channel_new _)
