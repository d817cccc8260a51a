use Rattle.std.proofs.Common.{◌+◌, ◌++◌, ◌∙◌, sym, ap, subst, refl, length, List, Option, Err}
use Rattle.std.proofs.lemmas.Result.{on_ok_weaker}
use Rattle.css_base.specs.Tokens.{Lexeme, lexemes}
use Rattle.css_lex.specs.declared.breach.Breach.{Breach}
use Rattle.css_lexemes.specs.LineKinds.{line_kind}
use Rattle.css_macros.specs.MacroTables.{table_of}
use Rattle.css_lex.specs.Refusals.{overruns, line_breaches}
use Rattle.css_lex.specs.Expanded.{expanded, word_costs, tokens_among, names_among, IsHead}
use Rattle.css_lex.specs.Found.{IsFound, least_of}
use Rattle.css_lex.specs.LexState.{state_of, line_of}
use Rattle.css_lex.proofs.LineBreaches.{all_inside}
use Rattle.css_lex.proofs.TextLines.{text_found, text_over, text_done}
use Rattle.css_lex.proofs.line.Brought.read_text.Goals as goal

pub read_words-requires : goal.read_words-requires
read_words-requires c = all_inside 0 (length c.args.numbered.now.text.now) c.args.line.now.source.now c.requires.between

pub returns-clause-ok : goal.returns-clause-ok
returns-clause-ok c =
    let text = c.args.numbered.now.text.now in
    let line = c.args.line.now in
    let old = c.args.self.now in
    let table = table_of old.macros in
    let words = c.in_ok-words.ensures in
    let done = c.in_default.ensures in
    on_ok_weaker c.settled.result
    (λ h.
    text_done text line.source.now old (record { macros = old.macros; counts = c.expand-outcome.new.counts; tokens = c.expand-outcome.new.tokens }) c.args.early
    (ap line_kind (sym line.same) ∙ c.requires.kind) c.requires.between c.requires.early
    (ap (λ (ws : List Lexeme). overruns old.counts.tokens old.counts.names (word_costs table ws)) (sym words.tokens) ∙ done.fits)
    (ap (least_of c.args.early) (sym words.failure) ∙ (sym c.least.ensures ∙ h))
    refl
    (done.token_count ∙ ap (λ (ws : List Lexeme). old.counts.tokens + tokens_among (word_costs table ws)) words.tokens)
    (done.name_count ∙ ap (λ (ws : List Lexeme). old.counts.names + names_among (word_costs table ws)) words.tokens)
    (done.tokens ∙ ap (λ (ws : List Lexeme). lexemes old.tokens.items ++ expanded table ws) words.tokens))
    c.settled.ensures.ok

pub returns-clause-broken : goal.returns-clause-broken
returns-clause-broken c b is =
    let text = c.args.numbered.now.text.now in
    let line = c.args.line.now in
    let old = c.args.self.now in
    let words = c.in_ok-words.ensures in
    subst (λ (f : Option Breach). IsFound f (line_breaches text (state_of old) (line_of line.source.now)))
    (ap (least_of c.args.early) (sym words.failure) ∙ (sym c.least.ensures ∙ c.settled.ensures.broken b is))
    (text_found text (state_of old) line.source.now c.args.early (ap line_kind (sym line.same) ∙ c.requires.kind) c.requires.between c.requires.early
    (ap (λ (ws : List Lexeme). overruns old.counts.tokens old.counts.names (word_costs (table_of old.macros) ws)) (sym words.tokens) ∙ c.in_default.ensures.fits))

pub returns-in-Err-clause-broken : goal.returns-in-Err-clause-broken
returns-in-Err-clause-broken c b is =
    let text = c.args.numbered.now.text.now in
    let line = c.args.line.now in
    let old = c.args.self.now in
    let words = c.in_ok-words.ensures in
    let fault = c.first_fault.ensures b cc in
    let head = c.in-Err.ensures.over fault.0 (ap Err fault.1) in
    subst (λ (f : Option Breach). IsFound f (line_breaches text (state_of old) (line_of line.source.now))) fault.2
    (text_over text (state_of old) line.source.now c.args.early fault.0 (ap line_kind (sym line.same) ∙ c.requires.kind) c.requires.between c.requires.early
    (subst (λ (ws : List Lexeme). IsHead fault.0 (overruns old.counts.tokens old.counts.names (word_costs (table_of old.macros) ws))) words.tokens head))
