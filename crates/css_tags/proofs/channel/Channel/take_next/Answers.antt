use Rattle.std.proofs.Common.{◌≡◌, List, ℕ, drop, get_or, sym, ◌∙◌, subst, vec_capacity, arith}
use Rattle.css_tags.specs.declared.slot.Slot.TheVariants.{Free, Issued}
use Rattle.css_tags.specs.Slots.{IsChannel}
use Rattle.css_tags.proofs.Tags.{issued_slot}
use Rattle.css_tags.proofs.Channels.{channel_taken, head_facts, none_issued, some_waits, first_issued}
use Rattle.css_tags.proofs.channel.Channel.take_next.Goals as goal

pub returns-then-is_empty-clause-none : goal.returns-then-is_empty-clause-none
returns-then-is_empty-clause-none c =
    let a = c.self.inside in
    rw (← c.self.view_is)
    (none_issued a.history.items a.slots.items a.queue.items c.self.invariant.queued c.if-is_empty.ensures)

pub take-requires : goal.take-requires
take-requires c =
    let a = c.self.inside in
    let facts = head_facts a.history.items a.slots.items a.queue.items (vec_capacity a.history) c.remove-tag.result
    c.self.invariant (some_waits a.queue.items c.if-is_empty.ensures) c.remove-tag.ensures.value in
    let low = facts.1 in
    let count = c.self.invariant.count in
    omega (arith, low, count)

pub unreachable-requires : goal.unreachable-requires
unreachable-requires c =
    let a = c.self.inside in
    let tag = c.remove-tag.result in
    let facts = head_facts a.history.items a.slots.items a.queue.items (vec_capacity a.history) tag
    c.self.invariant (some_waits a.queue.items c.if-is_empty.ensures) c.remove-tag.ensures.value in
    let slot = issued_slot a.history.items tag (get_or a.slots.items tag Free) (c.self.invariant.each tag facts.1) facts.0 in
    c.in_default.not-Issued slot.0 (c.take.ensures.value ∙ slot.1)

pub invariant_of-self : goal.invariant_of-self
invariant_of-self c =
    let a = c.self.inside in
    let tag = c.remove-tag.result in
    let facts = head_facts a.history.items a.slots.items a.queue.items (vec_capacity a.history) tag
    c.self.invariant (some_waits a.queue.items c.if-is_empty.ensures) c.remove-tag.ensures.value in
    let there : get_or a.slots.items tag Free ≡ Issued c.in-Issued.group = sym c.take.ensures.value ∙ c.in-Issued.is in
    let At : List ℕ → Type 0 = λ queue. IsChannel a.history.items a.slots.items queue (vec_capacity a.history) in
    rw (c.push_reserved.ensures.items, c.push_reserved.ensures.capacity, c.new-entry.ensures, c.take.ensures.after, c.remove-tag.ensures.items)
    (channel_taken a.history.items a.slots.items (drop 1 a.queue.items) (vec_capacity a.history) tag c.in-Issued.group
    (subst At facts.2 c.self.invariant) facts.1 there)

pub returns-clause-first : goal.returns-clause-first
returns-clause-first c =
    let a = c.self.inside in
    let tag = c.remove-tag.result in
    let facts = head_facts a.history.items a.slots.items a.queue.items (vec_capacity a.history) tag
    c.self.invariant (some_waits a.queue.items c.if-is_empty.ensures) c.remove-tag.ensures.value in
    let there : get_or a.slots.items tag Free ≡ Issued c.in-Issued.group = sym c.take.ensures.value ∙ c.in-Issued.is in
    rw (← c.self.view_is)
    (first_issued a.history.items a.slots.items a.queue.items (vec_capacity a.history) tag c.in-Issued.group
    c.self.invariant facts.1 facts.2 there)
