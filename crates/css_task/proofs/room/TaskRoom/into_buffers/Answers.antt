use Rattle.std.proofs.Common.{◌≡◌, [], refl, ap, sym, subst, ◌∙◌, IfOk}
use Rattle.css_task.specs.Cells.{Kept, room}
use Rattle.css_task.specs.Rooms.{outs_from}
use Rattle.css_task.specs.Placing.{uses_of}
use Rattle.css_task.specs.GivenBytes.{left_bytes}
use Rattle.css_task.proofs.LeftBytes.{outs_left}
use Rattle.css_task.proofs.room.TaskRoom.into_buffers.Goals as goal

pub returns : goal.returns
returns c =
    let m = c.self.inside in
    let is = c.self.invariant in
    let us = uses_of m.windows.all.items in
    subst (λ xs. IfOk c.outs_of.result (λ outs. outs.items ≡ xs))
    (ap (λ ps. left_bytes (uses_of ps) c.deref-2.result.now) c.deref.ensures.value
    ∙ ap (left_bytes us) c.deref-2.ensures.value
    ∙ sym (outs_left us m.stack.memory.place m.stack.memory.stack m.stack.frames m.bytes.items m.unwritten.words.items is.are is.short is.high us [] refl)
    ∙ ap (λ (k : Kept). outs_from (room k) k.uses) c.self.view_is)
    c.outs_of.ensures
