use Rattle.std.proofs.Common.{ap, ◌∙◌}
use Rattle.css_semantics.specs.Memory.{Memory}
use Rattle.css_semantics.specs.WithWindow.{with_window}
use Rattle.css_record.specs.Windows.{window}
use Rattle.css_judged.specs.Judged.{Judged, erased}
use Rattle.css_judged.proofs.MainReplies.{rows_do, rows_main}
use Rattle.css_judged.proofs.judged_memory.JudgedMemory.write_back.Goals as goal

pub invariant_of-self : goal.invariant_of-self
invariant_of-self c =
    let p = c.args.part in
    rw c.write_back.ensures (rows_main p.rows c.self.inside.memory p.base p.width p.stride c.args.bytes.now c.self.invariant)

pub returns : goal.returns
returns c =
    let p = c.args.part in
    let objects = c.self.inside.objects in
    ap (λ (m : Memory). let s : Judged = record { memory = erased m; objects = objects } in s) c.write_back.ensures
    ∙ ap (λ (m : Memory). let s : Judged = record { memory = m; objects = objects } in s) (rows_do p.rows c.self.inside.memory p.base p.width p.stride c.args.bytes.now)
    ∙ ap (λ (s : Judged). let t : Judged = record { memory = with_window s.memory (window p) c.args.bytes.now; objects = s.objects } in t) c.self.view_is
