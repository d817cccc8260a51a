use Rattle.std.proofs.Common.{◌≡◌, get_or, sym, refl, ◌∙◌, subst, vec_capacity, arith}
use Rattle.css_tags.specs.declared.slot.Slot.{Slot}
use Rattle.css_tags.specs.declared.slot.Slot.TheVariants.{Free, Finished}
use Rattle.css_tags.specs.Groups.{plan_of}
use Rattle.css_tags.specs.Slots.{IsSlot}
use Rattle.css_tags.specs.States.{IsFree}
use Rattle.css_tags.proofs.Tags.{taken_low, not_yet, finished_last, finished_only}
use Rattle.css_tags.proofs.Channels.{channel_collected}
use Rattle.css_tags.proofs.channel.Channel.collect.Goals as goal

pub is_finished-requires : goal.is_finished-requires
is_finished-requires c =
    let a = c.self.inside in
    let taken : ¬ IsFree c.args.tag a.history.items = rw c.self.view_is c.requires in
    let low = taken_low a.history.items c.args.tag c.self.invariant.tags taken in
    let count = c.self.invariant.count in
    rw c.as_slice.ensures.value (omega (arith, low, count))

pub returns-then-not-is_finished-clause-not_yet : goal.returns-then-not-is_finished-clause-not_yet
returns-then-not-is_finished-clause-not_yet c =
    let a = c.self.inside in
    let tag = c.args.tag in
    let taken : ¬ IsFree tag a.history.items = rw c.self.view_is c.requires in
    let low = taken_low a.history.items tag c.self.invariant.tags taken in
    let tells = rw c.as_slice.ensures.value at c.if-not-is_finished.ensures in
    rw (← c.self.view_is) (
      λ _. not_yet a.history.items tag (get_or a.slots.items tag Free) (c.self.invariant.each tag low) taken
          (λ done. (let wrong = tells.1 done in cc)),
      λ _. refl,
    )

pub invariant_of-self : goal.invariant_of-self
invariant_of-self c =
    let a = c.self.inside in
    let tag = c.args.tag in
    let taken : ¬ IsFree tag a.history.items = rw c.self.view_is c.requires in
    let low = taken_low a.history.items tag c.self.invariant.tags taken in
    let there : get_or a.slots.items tag Free ≡ Finished c.in-Finished.group = sym c.take.ensures.value ∙ c.in-Finished.is in
    rw (c.push_reserved.ensures.items, c.push_reserved.ensures.capacity, c.new-entry.ensures, c.take.ensures.after)
    (channel_collected a.history.items a.slots.items a.queue.items (vec_capacity a.history) tag c.in-Finished.group
    c.self.invariant low there)

pub returns-clause-finished : goal.returns-clause-finished
returns-clause-finished c =
    let a = c.self.inside in
    let tag = c.args.tag in
    let taken : ¬ IsFree tag a.history.items = rw c.self.view_is c.requires in
    let low = taken_low a.history.items tag c.self.invariant.tags taken in
    let there : get_or a.slots.items tag Free ≡ Finished c.in-Finished.group = sym c.take.ensures.value ∙ c.in-Finished.is in
    let At : Slot → Type 0 = IsSlot a.history.items tag in
    let last = finished_last a.history.items tag c.in-Finished.group (subst At there (c.self.invariant.each tag low)) in
    rw (← c.self.view_is) (
      plan_of c.in-Finished.group,
      last,
      c.of.ensures,
      rw (c.push_reserved.ensures.items, c.new-entry.ensures) refl,
    )

pub returns-clause-not_yet : goal.returns-clause-not_yet
returns-clause-not_yet c =
    let a = c.self.inside in
    let tag = c.args.tag in
    let taken : ¬ IsFree tag a.history.items = rw c.self.view_is c.requires in
    let low = taken_low a.history.items tag c.self.invariant.tags taken in
    let there : get_or a.slots.items tag Free ≡ Finished c.in-Finished.group = sym c.take.ensures.value ∙ c.in-Finished.is in
    let At : Slot → Type 0 = IsSlot a.history.items tag in
    let last = finished_last a.history.items tag c.in-Finished.group (subst At there (c.self.invariant.each tag low)) in
    rw (← c.self.view_is) (
      λ wrong. absurd (let no = wrong in cc),
      λ is. absurd (finished_only a.history.items tag (plan_of c.in-Finished.group, last) is),
    )
