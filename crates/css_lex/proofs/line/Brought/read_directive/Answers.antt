use Rattle.std.proofs.Common.{◌≡◌, ◌+◌, ◌++◌, ◌∷◌, ◌∙◌, sym, ap, subst, refl, ℕ, length, [], List, Option, Some, Err}
use Rattle.std.proofs.lemmas.List.{map_push}
use Rattle.css_base.specs.Tokens.{Lexeme, lexeme, lexemes}
use Rattle.css_lex.specs.declared.breach.Breach.{Breach}
use Rattle.css_lexemes.specs.LineKinds.{line_kind}
use Rattle.css_macros.specs.MacroTables.{table_of}
use Rattle.css_lex.specs.Spelling.{joined}
use Rattle.css_lex.specs.Refusals.{overruns, line_breaches}
use Rattle.css_lex.specs.Expanded.{expanded, word_costs, tokens_among, names_among, IsHead}
use Rattle.css_lex.specs.Found.{IsFound, least_of}
use Rattle.css_lex.specs.LexState.{state_of, line_of}
use Rattle.css_lex.proofs.LineBreaches.{all_inside}
use Rattle.css_lex.proofs.CssLines.{css_words, css_over, css_overrun, css_found, css_done}
use Rattle.css_lex.proofs.line.Brought.read_directive.Goals as goal

pub read_words-requires : goal.read_words-requires
read_words-requires c = all_inside 0 (length c.args.numbered.now.text.now) c.args.line.now.source.now c.requires.between

pub returns-in-Err-clause-broken : goal.returns-in-Err-clause-broken
returns-in-Err-clause-broken c b is =
    let text = c.args.numbered.now.text.now in
    let line = c.args.line.now in
    let old = c.args.self.now in
    let fault = c.first_fault.ensures b cc in
    let over = c.in-Err.ensures.over fault.0 (ap Err fault.1) in
    subst (λ (f : Option Breach). IsFound f (line_breaches text (state_of old) (line_of line.source.now)))
    (ap (λ (l : Breach). least_of c.args.early (Some l)) (sym (over.0 ∙ c.malformed.ensures)) ∙ fault.2)
    (css_over text (state_of old) line.source.now c.args.early (ap line_kind (sym line.same) ∙ c.requires.kind) c.requires.between c.requires.early over.1)

pub returns-in-Err-outcome-clause-broken : goal.returns-in-Err-outcome-clause-broken
returns-in-Err-outcome-clause-broken c b is =
    let text = c.args.numbered.now.text.now in
    let line = c.args.line.now in
    let old = c.args.self.now in
    let counts = c.count_directive.new.counts in
    let words = c.in_ok-words.ensures in
    let fault = c.first_fault-in-Err-outcome.ensures b cc in
    let head = c.in-Err-outcome.ensures.over fault.0 (ap Err fault.1) in
    subst (λ (f : Option Breach). IsFound f (line_breaches text (state_of old) (line_of line.source.now))) fault.2
    (css_overrun text (state_of old) line.source.now c.args.early counts.tokens fault.0 (ap line_kind (sym line.same) ∙ c.requires.kind) c.requires.between c.requires.early
    c.in_default.ensures.tokens counts.few_tokens old.counts.few_names
    (subst (λ (n : ℕ). IsHead fault.0 (overruns counts.tokens n (word_costs (table_of old.macros) (css_words text line.source.now)))) c.count_directive.ensures.names
    (subst (λ (ws : List Lexeme). IsHead fault.0 (overruns counts.tokens counts.names (word_costs (table_of old.macros) ws))) words.tokens head)))

pub returns-in-Some-clause-broken : goal.returns-in-Some-clause-broken
returns-in-Some-clause-broken c b is =
    let text = c.args.numbered.now.text.now in
    let line = c.args.line.now in
    let old = c.args.self.now in
    let counts = c.count_directive.new.counts in
    let words = c.in_ok-words.ensures in
    let same : c.in-Some.breach ≡ b = cc in
    subst (λ (f : Option Breach). IsFound f (line_breaches text (state_of old) (line_of line.source.now)))
    (ap (least_of c.args.early) (sym words.failure) ∙ (sym c.least.ensures ∙ (c.in-Some.is ∙ ap Some same)))
    (css_found text (state_of old) line.source.now c.args.early counts.tokens (ap line_kind (sym line.same) ∙ c.requires.kind) c.requires.between c.requires.early
    c.in_default.ensures.tokens counts.few_tokens old.counts.few_names
    (ap (λ (n : ℕ). overruns counts.tokens n (word_costs (table_of old.macros) (css_words text line.source.now))) (sym c.count_directive.ensures.names)
    ∙ (ap (λ (ws : List Lexeme). overruns counts.tokens counts.names (word_costs (table_of old.macros) ws)) (sym words.tokens) ∙ c.in_default-outcome.ensures.fits)))

pub returns-clause-ok : goal.returns-clause-ok
returns-clause-ok c =
    let text = c.args.numbered.now.text.now in
    let line = c.args.line.now in
    let old = c.args.self.now in
    let table = table_of old.macros in
    let counts = c.count_directive.new.counts in
    let words = c.in_ok-words.ensures in
    let done = c.in_default-outcome.ensures in
    css_done text line.source.now old (record { macros = old.macros; counts = c.expand-outcome.new.counts; tokens = c.push.new.self }) c.args.early counts.tokens
    (lexemes c.in_ok-words-2.words.items) (ap line_kind (sym line.same) ∙ c.requires.kind) c.requires.between c.requires.early
    c.in_default.ensures.tokens counts.few_tokens old.counts.few_names
    (ap (λ (n : ℕ). overruns counts.tokens n (word_costs table (css_words text line.source.now))) (sym c.count_directive.ensures.names)
    ∙ (ap (λ (ws : List Lexeme). overruns counts.tokens counts.names (word_costs table ws)) (sym words.tokens) ∙ done.fits))
    (ap (least_of c.args.early) (sym words.failure) ∙ (sym c.least.ensures ∙ c.in_default-least.is))
    refl
    (done.token_count ∙ ap (λ (ws : List Lexeme). counts.tokens + tokens_among (word_costs table ws)) words.tokens)
    (done.name_count ∙ (ap (λ (ws : List Lexeme). counts.names + names_among (word_costs table ws)) words.tokens ∙ ap (λ (n : ℕ). n + names_among (word_costs table (css_words text line.source.now))) c.count_directive.ensures.names))
    (c.in_ok-words-2.ensures
    ∙ ap joined (done.tokens ∙ (ap (λ ts. lexemes ts ++ expanded table (lexemes c.in_ok-words.words.tokens.items)) c.new-tokens.ensures.items ∙ ap (λ (ws : List Lexeme). expanded table ws) words.tokens)))
    (ap lexemes c.in_ok-push.ensures.items
    ∙ (map_push lexeme old.tokens.items c.directive.result ∙ ap (λ (t : Lexeme). lexemes old.tokens.items ++ t ∷ []) c.directive.ensures))
