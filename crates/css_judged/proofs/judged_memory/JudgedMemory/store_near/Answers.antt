use Rattle.css_semantics.specs.Memory.{big_endian_bytes}
use Rattle.css_vm.specs.Spaces.{bytes_of}
use Rattle.css_judged.proofs.MainReplies.{stored_main}
use Rattle.css_judged.proofs.judged_memory.JudgedMemory.store_near.Goals as goal

pub invariant_of-self-2 : goal.invariant_of-self-2
invariant_of-self-2 c =
    rw c.in_ok-store.ensures.learns (stored_main c.self.inside.memory c.args.address (big_endian_bytes (bytes_of c.args.width) c.args.value) c.self.invariant)
