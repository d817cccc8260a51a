use Rattle.std.proofs.Common.{refl, sym, subst, arith}
use Rattle.css_driver.specs.Answer.{IsRefusedBy}
use Rattle.css_driver.proofs.Commands.{long_refused_by, served_erased}
use Rattle.css_driver.proofs.Texts.{text_refused}
use Rattle.css_driver.proofs.answers.answer_text.Goals as goal

pub returns-then-text-gt-TEXT_LIMIT : goal.returns-then-text-gt-TEXT_LIMIT
returns-then-text-gt-TEXT_LIMIT g c =
    let command = c.args.request.now.command in
    let refused = long_refused_by command c.args.text.now (omega (arith, c.if-text-gt-TEXT_LIMIT.true)) in
    text_refused c.one_text_answer.ensures c.args.request.now _ _ _ c.args.text.now c.too_long.result
    (subst (λ f. IsRefusedBy command c.args.text.now f) (sym c.too_long.ensures) refused) refl c.refuse.ensures

pub returns-in-Check : goal.returns-in-Check
returns-in-Check g c = c.check_text.ensures c.args.request.now _ c.in-Check.is refl

pub returns-in-Run : goal.returns-in-Run
returns-in-Run g c = c.run_text.ensures c.args.request.now c.in-Run.is refl

pub erased_text-requires : goal.erased_text-requires
erased_text-requires g c = record { short = omega (arith, c.if-text-gt-TEXT_LIMIT.false); limits = c.requires.limits }

pub returns-in_default : goal.returns-in_default
returns-in_default g c =
    c.erased_text.ensures c.args.request.now (served_erased c.args.request.now.command c.requires.served c.in_default.not-Check c.in_default.not-Run) refl
