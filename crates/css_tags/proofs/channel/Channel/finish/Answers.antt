use Rattle.std.proofs.Common.{◌≡◌, Some, vec_capacity, arith}
use Rattle.css_tags.specs.Entries.{out}
use Rattle.css_tags.specs.Groups.{plan_of}
use Rattle.css_tags.specs.States.{last_on}
use Rattle.css_tags.proofs.Channels.{channel_finished, out_facts, room_left}
use Rattle.css_tags.proofs.channel.Channel.finish.Goals as goal

pub push_reserved-requires : goal.push_reserved-requires
push_reserved-requires c =
    let a = c.self.inside in
    let seen : last_on c.args.tag a.history.items ≡ Some (out c.args.tag (plan_of c.args.group)) =
    rw c.self.view_is c.requires.out in
    let facts = out_facts a.history.items a.slots.items a.queue.items (vec_capacity a.history) c.args.tag
    (plan_of c.args.group) c.self.invariant seen in
    let room = room_left a.history.items a.slots.items a.queue.items (vec_capacity a.history) c.args.tag c.self.invariant facts.0
    facts.2 in
    let own = a.history.ok.0 in
    omega (arith, room, own)

pub index_mut-requires : goal.index_mut-requires
index_mut-requires c =
    let a = c.self.inside in
    let seen : last_on c.args.tag a.history.items ≡ Some (out c.args.tag (plan_of c.args.group)) =
    rw c.self.view_is c.requires.out in
    let facts = out_facts a.history.items a.slots.items a.queue.items (vec_capacity a.history) c.args.tag
    (plan_of c.args.group) c.self.invariant seen in
    let low = facts.0 in
    let count = c.self.invariant.count in
    let own = a.slots.ok.0 in
    omega (arith, low, count, own)

pub invariant_of-self : goal.invariant_of-self
invariant_of-self c =
    let a = c.self.inside in
    let seen : last_on c.args.tag a.history.items ≡ Some (out c.args.tag (plan_of c.args.group)) =
    rw c.self.view_is c.requires.out in
    let facts = out_facts a.history.items a.slots.items a.queue.items (vec_capacity a.history) c.args.tag
    (plan_of c.args.group) c.self.invariant seen in
    rw (c.push_reserved.ensures.items, c.push_reserved.ensures.capacity, c.new-entry.ensures)
    (channel_finished a.history.items a.slots.items a.queue.items (vec_capacity a.history) c.args.tag c.args.group
    c.self.invariant facts.0 facts.1 seen c.requires.moved)
