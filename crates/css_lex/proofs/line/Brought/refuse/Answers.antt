use Rattle.std.proofs.Common.{◌≡◌, ◌∙◌, sym, ap, subst, Option, Some}
use Rattle.css_lex.specs.declared.breach.Breach.{Breach}
use Rattle.css_lexemes.specs.LineKinds.{line_kind}
use Rattle.css_lex.specs.Refusals.{line_breaches}
use Rattle.css_lex.specs.Found.{IsFound, least_of}
use Rattle.css_lex.specs.LexState.{state_of, line_of}
use Rattle.css_lex.proofs.UndefLines.{unknown_found}
use Rattle.css_lex.proofs.line.Brought.refuse.Goals as goal

pub returns : goal.returns
returns c b is =
    let text = c.args.numbered.now.text.now in
    let line = c.args.line.now in
    let old = c.args.self.now in
    let same : c.lesser.result ≡ b = cc in
    subst (λ (f : Option Breach). IsFound f (line_breaches text (state_of old) (line_of line.source.now)))
    (ap (λ (l : Breach). least_of c.args.early (Some l)) (sym c.malformed.ensures) ∙ (sym c.lesser.ensures ∙ ap Some same))
    (unknown_found text (state_of old) line.source.now c.args.early (ap line_kind (sym line.same) ∙ c.requires.kind) c.requires.early)
