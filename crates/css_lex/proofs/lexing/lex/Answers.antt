use Rattle.std.proofs.Common.{ap, inr, Err, arith}
use Rattle.css_lex.proofs.Readings.{breaks}
use Rattle.css_lex.proofs.lexing.lex.Goals as goal

pub returns-in-Err-clause-refused : goal.returns-in-Err-clause-refused
returns-in-Err-clause-refused c f is =
    let fault = c.front_fault.ensures f cc in
    inr (breaks c.args.text.now fault.0 f (omega (arith, c.if-text-gt-LONGEST.false)) (c.in-Err.ensures.broken fault.0 (ap Err fault.1)) fault.2)
