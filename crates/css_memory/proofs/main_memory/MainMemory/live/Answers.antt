use Rattle.std.proofs.Common.{◌≡◌, ◌+◌, ap, sym, ◌∙◌, arith}
use Rattle.css_memory.specs.Layouts.{layout_of, is_within}
use Rattle.css_memory.proofs.Replies.{live_by_layout}
use Rattle.css_memory.proofs.main_memory.MainMemory.live.Goals as goal

pub returns : goal.returns
returns c =
    let m = c.args.self.now.memory in
    let to : c.from-2.result + c.from-3.result ≡ c.args.address + c.args.length = omega arith in
    c.is_within.ensures
    ∙ ap (λ l. is_within l c.from.result (c.from-2.result + c.from-3.result)) c.layout.ensures.parts
    ∙ ap (λ n. is_within (layout_of m) n (c.from-2.result + c.from-3.result)) c.from.ensures
    ∙ ap (λ n. is_within (layout_of m) c.args.address n) to
    ∙ sym (live_by_layout m c.layout.ensures.order c.args.address c.args.length (omega arith))
