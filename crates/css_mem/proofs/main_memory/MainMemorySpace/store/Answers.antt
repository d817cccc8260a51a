use Rattle.std.proofs.Common.{◌≡◌, ◌+◌, true, length, ap, ◌∙◌, arith}
use Rattle.std.proofs.lemmas.List.{with_items_is}
use Rattle.css_semantics.specs.Memory.{is_live, big_endian_bytes, overlaid}
use Rattle.css_vm.specs.Spaces.{bytes_of}
use Rattle.css_vm.proofs.Bytes.{length-big_endian_bytes}
use Rattle.css_mem.proofs.Memories.{stored_in}
use Rattle.css_mem.proofs.main_memory.MainMemorySpace.store.Goals as goal

pub returns-clause-learns : goal.returns-clause-learns
returns-clause-learns c =
    let m = c.self.inside in
    let new = big_endian_bytes (bytes_of c.args.width) c.args.value in
    let live : is_live c.args.self.now c.args.address (length new) ≡ true = rw (length-big_endian_bytes, ← c.byte_count.ensures) c.in-Some.ensures.live in
    let kept = with_items_is m.bytes c.write_number.new.bytes (omega (arith, c.write_number.auto.bytes, c.deref_mut.ensures.len)) in
    rw kept
    (stored_in m.origin m.start c.args.address m.bytes.items m.calls m.most_calls c.args.self.now (omega arith) c.self.view_is c.in-Some.offset new c.write_number.new.bytes live c.in-Some.ensures.place (c.write_number.ensures ∙ ap (λ bytes. overlaid 0 bytes (m.start + c.in-Some.offset) new) c.deref_mut.ensures.value))
