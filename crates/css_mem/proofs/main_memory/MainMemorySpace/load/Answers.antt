use Rattle.std.proofs.Common.{◌≡◌, ◌+◌, ◌-◌, take, drop, ap, ◌∙◌, arith}
use Rattle.css_semantics.specs.Memory.{big_endian}
use Rattle.css_vm.specs.Spaces.{bytes_of}
use Rattle.css_mem.proofs.Memories.{loaded}
use Rattle.css_mem.proofs.main_memory.MainMemorySpace.load.Goals as goal

pub returns-clause-says : goal.returns-clause-says
returns-clause-says c =
    let m = c.self.inside in
    let width = c.byte_count-count.ensures in
    let index = m.start + c.in-Some.offset in
    let count : index + c.byte_count-count.result - index ≡ bytes_of c.args.width = omega arith in
    let live = rw width at c.in-Some.ensures.live in
    let inside = rw width at c.in-Some.ensures.within in
    loaded m.origin m.start c.args.address m.bytes.items m.calls m.most_calls c.args.self.now (omega arith) c.self.view_is c.in-Some.offset (bytes_of c.args.width) c.number_of.result live c.in-Some.ensures.place inside
    (c.number_of.ensures ∙ ap (λ n. big_endian (take n (drop index c.deref.result.now))) count ∙ ap (λ bytes. big_endian (take (bytes_of c.args.width) (drop index bytes))) c.deref.ensures.value)
