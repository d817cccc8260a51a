use Rattle.std.proofs.Common.{◌≡◌, false, ap, sym, ◌∙◌}
use Rattle.std.proofs.lemmas.Result.{err_from_is_err_and}
use Rattle.css_semantics.specs.Dialogue.{Load}
use Rattle.css_semantics.specs.Flat.{memory_reply}
use Rattle.css_semantics.specs.Rules.{meets}
use Rattle.css_vm.specs.Spaces.{bytes_of}
use Rattle.css_judged.specs.Judged.{Judged, main_reply}
use Rattle.css_judged.proofs.MainReplies.{load_is}
use Rattle.css_judged.proofs.judged_memory.JudgedMemorySpace.load.Goals as goal

pub returns-in_err-value-clause-refuses : goal.returns-in_err-value-clause-refuses
returns-in_err-value-clause-refuses c =
    let m = c.self.inside in
    let count = bytes_of c.args.width in
    let none : meets (λ o. o.is_written) m.objects c.args.address count ≡ false =
    ap (λ n. meets (λ o. o.is_written) m.objects c.args.address n) (sym c.byte_count.ensures) ∙ sym c.has_written.ensures ∙ c.if-has_written.false in
    let same : main_reply c.args.self.now (Load c.args.address count) ≡ memory_reply m.memory (Load c.args.address count) =
    ap (λ (s : Judged). main_reply s (Load c.args.address count)) (sym c.self.view_is) ∙ load_is m.memory m.objects c.args.address count none in
    let p = err_from_is_err_and c.from_residual.result c.from_residual.ensures.1 in
    rw (p.1, p.2, same) c.in_err-value.ensures.refuses
