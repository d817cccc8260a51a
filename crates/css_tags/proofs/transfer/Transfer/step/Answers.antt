use Rattle.std.proofs.Common.{◌≡◌, ◌∙◌, ap, sym, subst, Some, slice_get, length, arith}
use Rattle.css_tags.specs.Groups.{Moving, IsWidth, IsMoving}
use Rattle.css_tags.specs.Transfers.{moving_by}
use Rattle.css_tags.proofs.Transfers.{next_facts, none_left, copied_is, moved_is, same_target, same_bytes}
use Rattle.css_tags.proofs.transfer.Transfer.step.Goals as goal

pub returns-in_default-clause-none : goal.returns-in_default-clause-none
returns-in_default-clause-none c = none_left c.args.self.now (sym c.next_piece.ensures.value ∙ c.in_default.is)

pub copy_over-requires-clause-same : goal.copy_over-requires-clause-same
copy_over-requires-clause-same c =
    let a = c.self.inside in
    rw (same_target a.other a.block a.width a.moved, same_bytes a.other a.block a.width a.moved)
    c.self.invariant.moving.same_length

pub copy_over-requires-clause-inside : goal.copy_over-requires-clause-inside
copy_over-requires-clause-inside c =
    let a = c.self.inside in
    let m : Moving = moving_by a.other a.block a.width a.moved in
    let next : slice_get m.planned.pieces m.moved ≡ Some c.in-Some.piece =
    rw c.self.view_is (sym c.next_piece.ensures.value ∙ c.in-Some.is) in
    rw (same_bytes a.other a.block a.width a.moved)
    (next_facts a.other a.block a.width a.moved c.in-Some.piece c.self.invariant.width c.self.invariant.moving next).inside

pub overflow_add-self : goal.overflow_add-self
overflow_add-self c =
    let small = rw c.in-Some.is at c.next_piece.ensures.small in
    let seen : (moving_by c.self.inside.other c.self.inside.block c.self.inside.width c.self.inside.moved).moved
    ≡ c.args.self.now.moved = ap (λ (m : Moving). m.moved) c.self.view_is in
    let own = moved_is c.self.inside.other c.self.inside.block c.self.inside.width c.self.inside.moved in
    omega (arith, small, seen, own)

pub invariant_of-self : goal.invariant_of-self
invariant_of-self c =
    let a = c.self.inside in
    let m : Moving = moving_by a.other a.block a.width a.moved in
    let p = c.in-Some.piece in
    let next : slice_get m.planned.pieces m.moved ≡ Some p =
    rw c.self.view_is (sym c.next_piece.ensures.value ∙ c.in-Some.is) in
    let after = copied_is a.other c.copy_over.new.other a.block c.copy_over.new.block a.width a.moved p c.copy_over.ensures in
    let facts = next_facts a.other a.block a.width a.moved p c.self.invariant.width c.self.invariant.moving next in
    let Width : Moving → Type 0 = λ m. IsWidth a.width (length m.planned.bytes) in
    record { width = subst Width (sym after) c.self.invariant.width; moving = subst IsMoving (sym after) facts.moved }

pub returns-clause-moved : goal.returns-clause-moved
returns-clause-moved c =
    let a = c.self.inside in
    let m : Moving = moving_by a.other a.block a.width a.moved in
    let p = c.in-Some.piece in
    let next : slice_get m.planned.pieces m.moved ≡ Some p =
    rw c.self.view_is (sym c.next_piece.ensures.value ∙ c.in-Some.is) in
    let after = copied_is a.other c.copy_over.new.other a.block c.copy_over.new.block a.width a.moved p c.copy_over.ensures in
    let facts = next_facts a.other a.block a.width a.moved p c.self.invariant.width c.self.invariant.moving next in
    rw (← c.self.view_is) (p, facts.first, after)

pub returns-clause-moving : goal.returns-clause-moving
returns-clause-moving c =
    let a = c.self.inside in
    let m : Moving = moving_by a.other a.block a.width a.moved in
    let p = c.in-Some.piece in
    let next : slice_get m.planned.pieces m.moved ≡ Some p =
    rw c.self.view_is (sym c.next_piece.ensures.value ∙ c.in-Some.is) in
    let after = copied_is a.other c.copy_over.new.other a.block c.copy_over.new.block a.width a.moved p c.copy_over.ensures in
    let facts = next_facts a.other a.block a.width a.moved p c.self.invariant.width c.self.invariant.moving next in
    subst IsMoving (sym after) facts.moved
