use Rattle.std.proofs.Common.{◌∙◌, sym, ap, subst, Option}
use Rattle.std.proofs.lemmas.Result.{on_ok_weaker}
use Rattle.css_lex.specs.declared.breach.Breach.{Breach}
use Rattle.css_lexemes.specs.LineKinds.{line_kind}
use Rattle.css_lex.specs.Refusals.{line_breaches}
use Rattle.css_lex.specs.Found.{IsFound}
use Rattle.css_lex.specs.LexState.{state_of, line_of, passes}
use Rattle.css_lex.proofs.UndefLines.{passed_found, passed_done}
use Rattle.css_lex.proofs.line.Brought.pass_over.Goals as goal

pub returns-clause-ok : goal.returns-clause-ok
returns-clause-ok c =
    let line = c.args.line.now in
    on_ok_weaker c.settled.result
    (λ h. passed_done c.args.numbered.now.text.now line.source.now c.args.self.now c.args.early (ap (λ bs. passes (line_kind bs)) (sym line.same) ∙ c.requires.kind) c.requires.early h)
    c.settled.ensures.ok

pub returns-clause-broken : goal.returns-clause-broken
returns-clause-broken c b is =
    let text = c.args.numbered.now.text.now in
    let line = c.args.line.now in
    let old = c.args.self.now in
    subst (λ (f : Option Breach). IsFound f (line_breaches text (state_of old) (line_of line.source.now))) (c.settled.ensures.broken b is)
    (passed_found text (state_of old) line.source.now c.args.early (ap (λ bs. passes (line_kind bs)) (sym line.same) ∙ c.requires.kind) c.requires.early)
