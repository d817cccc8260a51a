use Rattle.std.proofs.Common.{◌≡◌, ap, sym, ◌∙◌, length, List, subst, vec_len, vec_capacity}
use Rattle.std.proofs.lemmas.List.{with_items_is}
use Rattle.css_tags.specs.declared.piece.Piece.{Piece}
use Rattle.css_tags.specs.Plans.{bytes_in}
use Rattle.css_tags.specs.Groups.{Moving, StepsAt, IsGroup, HasRoom, MovesNext, plan_of}
use Rattle.css_tags.proofs.Groups.{stepped_group, same_plan, moves_next, nothing_left}
use Rattle.css_tags.proofs.group.Group.step.Goals as goal

pub invariant_of-self : goal.invariant_of-self
invariant_of-self c =
    let a = c.self.inside in
    let old : List Moving = a.transfers.items in
    let new : List Moving = c.step_first.new.transfers in
    let index = c.in-Some.index in
    let steps : StepsAt old new a.next index = rw c.as_mut_slice.ensures.value at c.in-Some.ensures.stepped in
    let many : length new ≡ length old = c.step_first.auto.transfers ∙ ap length c.as_mut_slice.ensures.value in
    let whole = with_items_is a.transfers new (many ∙ sym a.transfers.ok.0) in
    let Is : List Moving → Type 0 = λ ms. IsGroup (record { put = a.put; items = ms }) index
    × (a.bytes ≡ bytes_in (plan_of (record { put = a.put; items = ms })))
    × HasRoom (record { put = a.put; items = ms }) (vec_len a.blocks) (vec_capacity a.blocks) (vec_len a.copies) (vec_capacity a.copies) in
    let room = c.self.invariant.2 in
    subst Is (sym whole) (
      stepped_group a.put old new a.next index c.self.invariant.0 steps c.in-Some.ensures.moving,
      c.self.invariant.1 ∙ ap (λ items. bytes_in (record { put = a.put; items = items })) (sym (same_plan old new a.next index steps)),
      record {
        no_block = room.no_block;
        for_blocks = rw many room.for_blocks;
        no_copy = room.no_copy;
        for_copies = rw many room.for_copies;
      },
    )

pub returns-in-Some-clause-moved : goal.returns-in-Some-clause-moved
returns-in-Some-clause-moved c =
    let a = c.self.inside in
    let old : List Moving = a.transfers.items in
    let new : List Moving = c.step_first.new.transfers in
    let index = c.in-Some.index in
    let steps : StepsAt old new a.next index = rw c.as_mut_slice.ensures.value at c.in-Some.ensures.stepped in
    let many : length new ≡ length old = c.step_first.auto.transfers ∙ ap length c.as_mut_slice.ensures.value in
    let whole = with_items_is a.transfers new (many ∙ sym a.transfers.ok.0) in
    let At : List Moving → Type 0 = λ ms. (p : Piece)
    × MovesNext (record { put = a.put; items = old }) (record { put = a.put; items = ms }) p in
    rw (← c.self.view_is) (subst At (sym whole) (moves_next a.put old new a.next index c.self.invariant.0 steps))

pub returns-in-Some-clause-plan : goal.returns-in-Some-clause-plan
returns-in-Some-clause-plan c =
    let a = c.self.inside in
    let old : List Moving = a.transfers.items in
    let new : List Moving = c.step_first.new.transfers in
    let index = c.in-Some.index in
    let steps : StepsAt old new a.next index = rw c.as_mut_slice.ensures.value at c.in-Some.ensures.stepped in
    let many : length new ≡ length old = c.step_first.auto.transfers ∙ ap length c.as_mut_slice.ensures.value in
    let whole = with_items_is a.transfers new (many ∙ sym a.transfers.ok.0) in
    let At : List Moving → Type 0 = λ ms. plan_of (record { put = a.put; items = ms }) ≡ plan_of (record { put = a.put; items = old }) in
    rw (← c.self.view_is) (subst At (sym whole)
    (ap (λ items. record { put = a.put; items = items }) (same_plan old new a.next index steps)))

pub returns-in-None-clause-none : goal.returns-in-None-clause-none
returns-in-None-clause-none c =
    let a = c.self.inside in
    let none = rw c.as_mut_slice.ensures.value at c.in-None.ensures.none in
    rw (← c.self.view_is) (nothing_left a.transfers.items a.next c.self.invariant.0.passed none)
