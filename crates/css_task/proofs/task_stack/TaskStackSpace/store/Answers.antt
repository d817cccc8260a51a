use Rattle.std.proofs.Common.{◌+◌, ◌≤◌, length, ap, ◌∙◌, arith}
use Rattle.std.proofs.lemmas.List.{with_items_is}
use Rattle.css_semantics.specs.Memory.{big_endian_bytes, overlaid}
use Rattle.css_vm.proofs.Bytes.{length-big_endian_bytes}
use Rattle.css_vm.specs.Spaces.{bytes_of}
use Rattle.css_task.proofs.Spaces.{stores_in_stack}
use Rattle.css_task.proofs.task_stack.TaskStackSpace.store.Goals as goal

pub returns-in-Some-clause-learns : goal.returns-in-Some-clause-learns
returns-in-Some-clause-learns c =
    let m = c.self.inside in
    let new = big_endian_bytes (bytes_of c.args.width) c.args.value in
    let index = c.in-Some.index in
    let below : index + length new ≤ 16384 = omega (arith, length-big_endian_bytes (bytes_of c.args.width) c.args.value, c.byte_count-count.ensures, c.in-Some.ensures.within.1) in
    let items = with_items_is m.stack c.write_number.new.bytes (omega (arith, c.write_number.auto.bytes, c.deref_mut.ensures.len)) in
    rw items
    (stores_in_stack m.end m.start m.innermost m.stack.items m.sizes.items c.self.invariant c.args.self.now c.self.view_is
    c.args.address index new c.write_number.new.bytes c.in-Some.ensures.place c.in-Some.ensures.within.0 below (c.write_number.ensures ∙ ap (λ bytes. overlaid 0 bytes index new) c.deref_mut.ensures.value))
