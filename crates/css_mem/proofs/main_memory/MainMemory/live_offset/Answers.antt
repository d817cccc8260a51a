use Rattle.std.proofs.Common.{arith}
use Rattle.css_mem.proofs.Memories.{are_live, are_not_live}
use Rattle.css_mem.proofs.main_memory.MainMemory.live_offset.Goals as goal
use Rattle.css_mem.proofs.main_memory.MainMemory.live_offset.Goals.{else-place-address-via-then-place-address+then-count-end+else-address-end, else-place-address-via-then-place-address+else-count-end, else-place-address-via-else-place-address}

pub returns-then-address-end-clause-live : goal.returns-then-address-end-clause-live
returns-then-address-end-clause-live c =
    let m = c.self.inside in
    are_live m.origin m.start c.args.address m.bytes.items m.calls m.most_calls c.args.self.now (omega arith) c.self.view_is c.args.count c.requires (omega arith) (omega arith)

pub returns-else-place-address-clause-live : goal.returns-else-place-address-clause-live
returns-else-place-address-clause-live c =
    let m = c.self.inside in
    are_not_live m.origin m.start c.args.address m.bytes.items m.calls m.most_calls c.args.self.now (omega arith) c.self.view_is c.args.count c.requires
    (λ above below. elim c.else-place-address.branch [
      | else-place-address-via-then-place-address+then-count-end+else-address-end w ↦ omega arith
      | else-place-address-via-then-place-address+else-count-end w ↦ omega arith
      | else-place-address-via-else-place-address w ↦ omega arith
    ])
