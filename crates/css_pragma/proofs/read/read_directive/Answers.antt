use Rattle.std.proofs.Common.{Err, sym, ap, subst}
use Rattle.std.proofs.lemmas.Result.{IfOk-weaker, IfErr-weaker}
use Rattle.css_base.specs.Tokens.{lexemes}
use Rattle.css_tree.specs.Shapes.{directive}
use Rattle.css_pragma.specs.Readings.{ReadsDirective}
use Rattle.css_pragma.specs.Refusals.{IsAccepted, IfRefused}
use Rattle.css_pragma.proofs.Rules.{spelled, accepted, not_spelled, bad_directive, side_effect}
use Rattle.css_pragma.proofs.read.read_directive.Goals as goal

pub returns-in-Ok-clause-ok : goal.returns-in-Ok-clause-ok
returns-in-Ok-clause-ok c =
    let place = c.args.place in
    let line = c.args.line in
    let ts = lexemes c.as_slice-words.result.now in
    let shallow = c.is_shallow.ensures.0 c.if-not-is_shallow.false in
    IfOk-weaker c.without_effect.result _ _
    (λ d s. subst (λ l. IsAccepted place line (lexemes l) (directive d)) c.as_slice-words.ensures.value
    (accepted place line ts (directive d) shallow (subst (λ x. ReadsDirective place line ts (directive x)) (sym s.0) c.in-Ok.ensures.ok) s.1)) c.without_effect.ensures.ok

pub returns-in-Ok-clause-refused : goal.returns-in-Ok-clause-refused
returns-in-Ok-clause-refused c =
    let place = c.args.place in
    let line = c.args.line in
    let ts = lexemes c.as_slice-words.result.now in
    let shallow = c.is_shallow.ensures.0 c.if-not-is_shallow.false in
    IfErr-weaker c.without_effect.result _ _
    (λ f s. subst (λ l. IfRefused place line (lexemes l) f) c.as_slice-words.ensures.value
    (side_effect place line ts f (directive c.in-Ok.directive) s.0 (spelled place line ts (directive c.in-Ok.directive) shallow c.in-Ok.ensures.ok) s.1)) c.without_effect.ensures.refused

pub returns-in-Err-NotSpelled-clause-refused : goal.returns-in-Err-NotSpelled-clause-refused
returns-in-Err-NotSpelled-clause-refused c =
    let place = c.args.place in
    let line = c.args.line in
    let ts = lexemes c.as_slice-words.result.now in
    subst (λ l. IfRefused place line (lexemes l) c.refused-in-Err-NotSpelled.result) c.as_slice-words.ensures.value
    (bad_directive place line ts c.refused-in-Err-NotSpelled.result c.refused-in-Err-NotSpelled.ensures
    (not_spelled place line ts (c.in-Err-NotSpelled.ensures.not_spelled (ap Err c.in-Err-NotSpelled.field-0-is))))
