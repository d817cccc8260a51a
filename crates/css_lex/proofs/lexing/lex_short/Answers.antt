use Rattle.std.proofs.Common.{◌∙◌, ap, subst}
use Rattle.css_lex.specs.Spelling.{joined}
use Rattle.css_lex.specs.LexState.{IsWhole}
use Rattle.css_lex.proofs.Readings.{spells}
use Rattle.css_lex.proofs.lexing.lex_short.Goals as goal

pub returns-clause-ok : goal.returns-clause-ok
returns-clause-ok c =
    let whole = subst (λ text. IsWhole text c.read_text.new.brought) c.in_ok-numbered.ensures c.in_default.ensures.ok in
    spells c.args.text.now _ c.requires whole.unbroken (c.in_ok-tokens.ensures ∙ ap joined whole.tokens_are)
