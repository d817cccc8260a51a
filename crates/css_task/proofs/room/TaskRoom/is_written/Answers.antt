use Rattle.std.proofs.Common.{subst}
use Rattle.css_task.specs.Cells.{Kept, room}
use Rattle.css_task.specs.Placing.{uses_of}
use Rattle.css_task.specs.Returned.{IsWritten, IsUnwritten}
use Rattle.css_task.proofs.Written.{written, unwritten}
use Rattle.css_task.proofs.room.TaskRoom.is_written.Goals as goal

pub returns-clause-all : goal.returns-clause-all
returns-clause-all c = λ none.
    let m = c.self.inside in
    let is = c.self.invariant in
    subst (λ (k : Kept). IsWritten (room k)) c.self.view_is
    (written (uses_of m.windows.all.items) m.stack.memory.place m.stack.memory.stack m.stack.frames m.bytes.items m.unwritten.words.items is.are is.short is.high (c.is_empty.ensures.none none))

pub returns-clause-some : goal.returns-clause-some
returns-clause-some c = λ some.
    let m = c.self.inside in
    let is = c.self.invariant in
    let found = c.is_empty.ensures.some some in
    subst (λ (k : Kept). IsUnwritten (room k)) c.self.view_is
    (unwritten (uses_of m.windows.all.items) m.stack.memory.place m.stack.memory.stack m.stack.frames m.bytes.items m.unwritten.words.items is.are is.short is.high found.0 found.1)
