use Rattle.std.proofs.Common.{◌≡◌, sym, ap, ◌∙◌, subst, Some, IfOk, IfErr}
use Rattle.std.proofs.lemmas.Result.{IfOk-weaker}
use Rattle.css_base.specs.Tokens.{lexemes}
use Rattle.css_tree.specs.Shapes.{tree}
use Rattle.css_parse.specs.Refusals.{IsAccepted, IfRefused}
use Rattle.css_parse.proofs.Rules.{no_line, unsupported_refused, deep_refused, unspelled_refused}
use Rattle.css_parse.proofs.program.parse.Goals as goal

pub returns-in-Some-clause-refused : goal.returns-in-Some-clause-refused
returns-in-Some-clause-refused c =
    subst (λ l. IfRefused (lexemes l) c.refused.result) c.as_slice-tokens.ensures.value
    (unsupported_refused (lexemes c.as_slice-tokens.result.now) c.refused.result c.in-Some.line c.refused.ensures (sym c.in-Some.is ∙ c.first_unsupported.ensures))

pub returns-in-Some-too_deep-clause-refused : goal.returns-in-Some-too_deep-clause-refused
returns-in-Some-too_deep-clause-refused c =
    subst (λ l. IfRefused (lexemes l) c.refused-in-Some-too_deep.result) c.as_slice-tokens.ensures.value
    (deep_refused (lexemes c.as_slice-tokens.result.now) c.refused-in-Some-too_deep.result c.in-Some-too_deep.line c.refused-in-Some-too_deep.ensures
    (no_line _ (sym c.in_default.is ∙ c.first_unsupported.ensures)) c.in-Some-too_deep.ensures.found)

pub returns-clause-ok : goal.returns-clause-ok
returns-clause-ok c =
    IfOk-weaker c.items.result _ _ (λ t s. subst (λ l. IsAccepted (lexemes l) (tree t)) c.as_slice-tokens.ensures.value
    (record { supported = no_line _ (sym c.in_default.is ∙ c.first_unsupported.ensures); shallow = c.in_default-too_deep.ensures.none; spells = s })) c.items.ensures.ok

pub returns-clause-refused : goal.returns-clause-refused
returns-clause-refused c =
    subst (λ l. IfErr c.items.result (λ fault. IfRefused (lexemes l) fault)) c.as_slice-tokens.ensures.value
    (unspelled_refused (lexemes c.as_slice-tokens.result.now) c.items.result (no_line _ (sym c.in_default.is ∙ c.first_unsupported.ensures)) c.in_default-too_deep.ensures.none c.items.ensures.refused)
