use Rattle.std.proofs.Common.{Err, ap}
use Rattle.css_parse.proofs.Exits.{err_memory, memory_only}
use Rattle.css_parse.proofs.item.optional_mark.Goals as goal

pub returns-in_err-mark-clause-no_memory : goal.returns-in_err-mark-clause-no_memory
returns-in_err-mark-clause-no_memory c =
    let m = c.is_directive.ensures.0 c.if-not-is_directive.false in
    err_memory c.from_residual.result c.in_err-mark.field-0.0 c.from_residual.ensures.1 (memory_only c.in_err-mark.field-0.0 (λ e. c.in_err-mark.ensures.not_spelled (ap Err e) m.0 m.1 m.2))
