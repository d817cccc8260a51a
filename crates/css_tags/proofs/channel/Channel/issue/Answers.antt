use Rattle.std.proofs.Common.{◌+◌, ◌≤◌, ◌<◌, ◌^◌, get_or, length, sym, refl, ◌∙◌, vec_capacity, arith, lit<}
use Rattle.css_tags.specs.declared.slot.Slot.{Slot}
use Rattle.css_tags.specs.declared.slot.Slot.TheVariants.{Free}
use Rattle.css_tags.proofs.Tags.{free_from_slot, slot_from_free}
use Rattle.css_tags.proofs.Channels.{channel_issued, room_in_queue, reserved}
use Rattle.css_tags.proofs.channel.Channel.issue.Goals as goal

pub returns-then-not-is_free-clause-busy : goal.returns-then-not-is_free-clause-busy
returns-then-not-is_free-clause-busy c =
    let a = c.self.inside in
    let tag = c.args.tag in
    let slot : Slot = get_or a.slots.items tag Free in
    let tells = rw c.as_slice.ensures.value at c.if-not-is_free.ensures in
    rw (← c.self.view_is) (
      λ _ free. (let wrong = tells.1 (slot_from_free a.history.items tag slot (c.self.invariant.each tag c.requires) free) in cc),
      λ _. tt,
    )

pub returns-then-len-ge-MOST_ENTRIES-clause-busy : goal.returns-then-len-ge-MOST_ENTRIES-clause-busy
returns-then-len-ge-MOST_ENTRIES-clause-busy c =
    let a = c.self.inside in
    let tag = c.args.tag in
    let slot : Slot = get_or a.slots.items tag Free in
    let tells = rw c.as_slice.ensures.value at c.if-not-is_free.ensures in
    rw (← c.self.view_is) (
      λ none. absurd none,
      λ taken. taken (free_from_slot a.history.items tag slot (c.self.invariant.each tag c.requires) (tells.0 refl)),
    )

pub push-requires : goal.push-requires
push-requires c =
    let a = c.self.inside in
    let tells = rw c.as_slice.ensures.value at c.if-not-is_free.ensures in
    (lit< tt, room_in_queue a.slots.items a.queue.items c.args.tag c.self.invariant.queued c.self.invariant.count c.requires (tells.0 refl))

pub invariant_of-self-2 : goal.invariant_of-self-2
invariant_of-self-2 c =
    let a = c.self.inside in
    let tells = rw c.as_slice.ensures.value at c.if-not-is_free.ensures in
    let room = reserved c.reserve.result _ (sym c.is_err.ensures.value ∙ c.if-is_err.false) c.reserve.ensures.ok in
    let same = c.reserve.ensures.len in
    let few = c.if-len-ge-MOST_ENTRIES.false in
    let long = c.len.ensures in
    let own = a.history.ok.0 in
    let wide : length a.history.items + 128 ≤ vec_capacity c.reserve.new.self = omega (arith, room, same, own) in
    let small : length a.history.items < 2 ^ 62 = omega (arith, few, long, own) in
    rw (c.push_reserved.ensures.items, c.push_reserved.ensures.capacity, c.reserve.ensures.items, c.new-entry.ensures, c.push.ensures.items)
    (channel_issued a.history.items a.slots.items a.queue.items (vec_capacity a.history) (vec_capacity c.reserve.new.self)
    c.args.tag c.args.group c.self.invariant c.requires (tells.0 refl) wide small)

pub returns-clause-free : goal.returns-clause-free
returns-clause-free c =
    let a = c.self.inside in
    let tag = c.args.tag in
    let slot : Slot = get_or a.slots.items tag Free in
    let tells = rw c.as_slice.ensures.value at c.if-not-is_free.ensures in
    rw (← c.self.view_is)
    (free_from_slot a.history.items tag slot (c.self.invariant.each tag c.requires) (tells.0 refl))
