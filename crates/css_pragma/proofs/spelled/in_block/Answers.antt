use Rattle.std.proofs.Common.{sym, ◌∙◌}
use Rattle.std.proofs.lemmas.Bool.{false≢true}
use Rattle.css_base.specs.Tokens.{lexemes}
use Rattle.css_pragma.proofs.Exits.{passed}
use Rattle.css_pragma.proofs.AbsentParts.{no_directive}
use Rattle.css_pragma.proofs.spelled.in_block.Goals as goal

pub returns-in_err-addresses-clause-not_spelled : goal.returns-in_err-addresses-clause-not_spelled
returns-in_err-addresses-clause-not_spelled c = λ why d r.
    no_directive c.args.line (lexemes c.args.words.now) d
    (λ n. false≢true (sym c.if-is_alone.false ∙ c.is_alone.ensures.1 n))
    (λ n. false≢true (sym c.if-is_alone-2.false ∙ c.is_alone-2.ensures.1 n))
    (λ n. false≢true (sym c.if-is_alone-3.false ∙ c.is_alone-3.ensures.1 n))
    (c.in_err-addresses.ensures.not_spelled (passed c.from_residual.result c.in_err-addresses.field-0.0 c.from_residual.ensures.1 why)) r
