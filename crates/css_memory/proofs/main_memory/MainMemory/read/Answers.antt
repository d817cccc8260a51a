use Rattle.std.proofs.Common.{length, vec_capacity, ap, ◌∙◌}
use Rattle.css_semantics.specs.Memory.{is_live, bytes_at, overlaid}
use Rattle.css_memory.specs.Main.{Main}
use Rattle.css_memory.specs.Held.{parts}
use Rattle.css_memory.proofs.ReadBytes.{read_parts}
use Rattle.css_memory.proofs.main_memory.MainMemory.read.Goals as goal

pub returns : goal.returns
returns c =
    let m = c.self.inside in
    let address = c.args.address in
    let into = c.args.into.now in
    let live = ap (λ (s : Main). is_live s.memory address (length into)) c.self.view_is ∙ c.requires in
    c.overlay-2.ensures
    ∙ ap (λ xs. overlaid address xs m.origin c.deref-2.result.now) c.overlay.ensures
    ∙ ap (λ xs. overlaid address (overlaid address into 4096 xs) m.origin c.deref-2.result.now) c.deref.ensures.value
    ∙ ap (λ xs. overlaid address (overlaid address into 4096 m.low.items) m.origin xs) c.deref-2.ensures.value
    ∙ read_parts (parts m) m.calls m.most_calls (vec_capacity m.low) (length m.pages) c.self.invariant address into live
    ∙ ap (λ (s : Main). bytes_at s.memory address (length into)) c.self.view_is
