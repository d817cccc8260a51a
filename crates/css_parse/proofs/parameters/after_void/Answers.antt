use Rattle.std.proofs.Common.{codes, subst}
use Rattle.css_base.specs.Tokens.{Punctuator}
use Rattle.css_parse.specs.Fronts.{Next}
use Rattle.css_parse.proofs.Exits.{IfNone-weaker}
use Rattle.css_parse.proofs.FrontTokens.{one_next}
use Rattle.css_parse.proofs.parameters.after_void.Goals as goal

pub returns-in_err-behind-clause-none : goal.returns-in_err-behind-clause-none
returns-in_err-behind-clause-none c = rw c.from_residual.ensures (λ rest r. c.in_err-behind.ensures.none r.0 r.1)

pub returns-clause-none : goal.returns-clause-none
returns-clause-none c =
    IfNone-weaker c.after_mark.result (λ h rest r. h rest (subst (λ l. Next (Punctuator (codes ")")) l rest) (one_next r.1 c.in_ok-behind.ensures.found) r.2)) c.after_mark.ensures.none
