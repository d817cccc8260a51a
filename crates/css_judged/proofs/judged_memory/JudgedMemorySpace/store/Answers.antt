use Rattle.std.proofs.Common.{◌≡◌, length, ap, sym, ◌∙◌}
use Rattle.std.proofs.lemmas.Result.{err_from_is_err_and}
use Rattle.css_semantics.specs.Memory.{Memory, big_endian_bytes}
use Rattle.css_vm.specs.Spaces.{bytes_of}
use Rattle.css_vm.proofs.Bytes.{length-big_endian_bytes}
use Rattle.css_judged.specs.Judged.{Judged, erased}
use Rattle.css_judged.proofs.MainReplies.{stored_main}
use Rattle.css_judged.proofs.FarStores.{far_reply, far_after}
use Rattle.css_judged.proofs.judged_memory.JudgedMemorySpace.store.Goals as goal

pub invariant_of-self-2 : goal.invariant_of-self-2
invariant_of-self-2 c =
    rw c.in_ok-store.ensures.learns (stored_main c.self.inside.memory c.args.address (big_endian_bytes (bytes_of c.args.width) c.args.value) c.self.invariant)

pub returns-in_err-store-clause-refuses : goal.returns-in_err-store-clause-refuses
returns-in_err-store-clause-refuses c =
    let m = c.self.inside in
    let bytes = big_endian_bytes (bytes_of c.args.width) c.args.value in
    let long : c.byte_count.result ≡ length bytes = c.byte_count.ensures ∙ sym (length-big_endian_bytes (bytes_of c.args.width) c.args.value) in
    let same = far_reply m.memory m.objects c.args.self.now c.self.view_is c.args.address c.byte_count.result bytes long (c.is_near.ensures c.if-is_near.false) in
    let p = err_from_is_err_and c.from_residual.result c.from_residual.ensures.1 in
    rw (p.1, p.2, same) c.in_err-store.ensures.refuses

pub returns-clause-says : goal.returns-clause-says
returns-clause-says c =
    let m = c.self.inside in
    let bytes = big_endian_bytes (bytes_of c.args.width) c.args.value in
    let long : c.byte_count.result ≡ length bytes = c.byte_count.ensures ∙ sym (length-big_endian_bytes (bytes_of c.args.width) c.args.value) in
    let same = far_reply m.memory m.objects c.args.self.now c.self.view_is c.args.address c.byte_count.result bytes long (c.is_near.ensures c.if-is_near.false) in
    (c.in_ok-store.ensures.says.0, same ∙ c.in_ok-store.ensures.says.1)

pub returns-clause-learns : goal.returns-clause-learns
returns-clause-learns c =
    let m = c.self.inside in
    let bytes = big_endian_bytes (bytes_of c.args.width) c.args.value in
    let long : c.byte_count.result ≡ length bytes = c.byte_count.ensures ∙ sym (length-big_endian_bytes (bytes_of c.args.width) c.args.value) in
    ap (λ (n : Memory). let t : Judged = record { memory = erased n; objects = m.objects } in t) c.in_ok-store.ensures.learns
    ∙ far_after m.memory m.objects c.args.self.now c.self.view_is c.args.address c.byte_count.result bytes long (c.is_near.ensures c.if-is_near.false)
