use Rattle.std.proofs.Common.{sym}
use Rattle.css_tags.proofs.Transfers.{next_of, none_of}
use Rattle.css_tags.proofs.transfer.Transfer.next_piece.Goals as goal

pub returns-then-self-count-clause-value : goal.returns-then-self-count-clause-value
returns-then-self-count-clause-value c =
    let a = c.self.inside in
    rw (← c.self.view_is, c.piece_at.ensures)
    (sym (next_of a.other a.block a.width a.moved c.count.result c.in_default.not-Nothing c.self.invariant.moving
    (rw (← c.length-bytes.ensures.value) c.count.ensures) c.if-self-count.true))

pub returns-else-self-count-clause-value : goal.returns-else-self-count-clause-value
returns-else-self-count-clause-value c =
    let a = c.self.inside in
    rw (← c.self.view_is)
    (sym (none_of a.other a.block a.width a.moved c.count.result c.self.invariant.moving
    (rw (← c.length-bytes.ensures.value) c.count.ensures) c.if-self-count.false))
