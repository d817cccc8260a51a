use Rattle.std.proofs.Common.{◌≤◌, ◌*◌, length, map, ap, ◌∙◌, arith, get_or, false}
use Rattle.css_record.specs.Windows.{window}
use Rattle.css_record.specs.Records.{uses_by}
use Rattle.css_task.specs.Cells.{addresses, flags}
use Rattle.css_task.specs.Placing.{uses_of}
use Rattle.css_task.specs.GivenBytes.{is_new}
use Rattle.css_task.proofs.Fitting.{uses_are_windows}
use Rattle.css_task.proofs.Entry.{entry_is_room, entry_is}
use Rattle.css_task.proofs.room.TaskRoom.new.Goals as goal

pub unwritten_of-requires-clause-count : goal.unwritten_of-requires-clause-count
unwritten_of-requires-clause-count c =
    omega (arith, c.len.ensures, c.in_ok-all.field-0.bytes.ok.0, c.in_ok-all.ensures.long, ap (λ ps. length (addresses (uses_of ps))) c.deref.ensures.value)

pub invariant_of-result : goal.invariant_of-result
invariant_of-result c =
    let g = c.in_ok-all.field-0 in
    let words = c.in_ok-unwritten.unwritten.words.items in
    let long : length (addresses (uses_of g.all.items)) ≤ 64 * length words =
    omega (arith, c.in_ok-unwritten.ensures.room, c.len.ensures, g.bytes.ok.0, c.in_ok-all.ensures.long) in
    rw c.in_ok-windows.ensures
    (entry_is_room g.all.items (uses_by c.args.parts.now (map window c.args.windows.now)) c.args.inputs.now c.args.place c.in_ok-stack.stack g.bytes.items words
    c.in_ok-all.ensures.uses c.in_ok-all.ensures.bytes c.in_ok-stack.ensures
    (λ k. c.in_ok-unwritten.ensures.are k ∙ ap (λ ps. get_or (flags is_new (uses_of ps)) k false) c.deref.ensures.value)
    c.in_ok-all.ensures.placed (uses_are_windows c.args.parts.now (map window c.args.windows.now) c.requires.given) c.requires.agree c.requires.inputs c.requires.high c.requires.clear long)

pub returns : goal.returns
returns c =
    let g = c.in_ok-all.field-0 in
    rw c.in_ok-windows.ensures
    (entry_is g.all.items (uses_by c.args.parts.now (map window c.args.windows.now)) c.args.inputs.now c.args.place c.in_ok-stack.stack g.bytes.items c.in_ok-unwritten.unwritten.words.items
    c.in_ok-all.ensures.uses c.in_ok-all.ensures.bytes c.in_ok-stack.ensures
    (λ k. c.in_ok-unwritten.ensures.are k ∙ ap (λ ps. get_or (flags is_new (uses_of ps)) k false) c.deref.ensures.value))
