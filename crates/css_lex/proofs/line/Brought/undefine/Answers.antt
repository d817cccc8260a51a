use Rattle.std.proofs.Common.{◌≡◌, ◌∙◌, sym, ap, ap₂, subst, refl, length, Option, Some}
use Rattle.css_lex.specs.declared.breach.Breach.{Breach}
use Rattle.css_lexemes.specs.LineKinds.{line_kind}
use Rattle.css_macros.specs.Macros.{undefined}
use Rattle.css_macros.specs.MacroTables.{table_of}
use Rattle.css_lex.specs.Refusals.{line_breaches}
use Rattle.css_lex.specs.Found.{IsFound, least_of}
use Rattle.css_lex.specs.HashLines.{only_name}
use Rattle.css_lex.specs.LexState.{state_of, line_of}
use Rattle.css_lex.proofs.LineBreaches.{all_inside}
use Rattle.css_lex.proofs.UndefLines.{undef_malformed, undef_found, undef_done}
use Rattle.css_lex.proofs.line.Brought.undefine.Goals as goal

pub read_words-requires : goal.read_words-requires
read_words-requires c = all_inside 0 (length c.args.numbered.now.text.now) c.args.line.now.source.now c.requires.between

pub returns-in_default-clause-broken : goal.returns-in_default-clause-broken
returns-in_default-clause-broken c b is =
    let text = c.args.numbered.now.text.now in
    let line = c.args.line.now in
    let old = c.args.self.now in
    let words = c.in_ok-words.ensures in
    let same : c.lesser.result ≡ b = cc in
    subst (λ (f : Option Breach). IsFound f (line_breaches text (state_of old) (line_of line.source.now)))
    (ap (λ (l : Breach). least_of c.args.early (Some l)) (sym c.malformed.ensures) ∙ (sym c.lesser.ensures ∙ ap Some same))
    (undef_malformed text (state_of old) line.source.now c.args.early (ap line_kind (sym line.same) ∙ c.requires.kind) c.requires.early
    (sym (ap₂ only_name words.tokens words.failure) ∙ sym c.in_default.ensures))

pub returns-in-Some-early-clause-broken : goal.returns-in-Some-early-clause-broken
returns-in-Some-early-clause-broken c b is =
    let text = c.args.numbered.now.text.now in
    let line = c.args.line.now in
    let old = c.args.self.now in
    let words = c.in_ok-words.ensures in
    let same : c.in-Some-early.breach ≡ b = cc in
    subst (λ (f : Option Breach). IsFound f (line_breaches text (state_of old) (line_of line.source.now))) (c.in-Some-early.is ∙ ap Some same)
    (undef_found text (state_of old) line.source.now c.args.early c.in-Some.name (ap line_kind (sym line.same) ∙ c.requires.kind) c.requires.early
    (sym (ap₂ only_name words.tokens words.failure) ∙ sym c.in-Some.ensures))

pub returns-clause-ok : goal.returns-clause-ok
returns-clause-ok c =
    let text = c.args.numbered.now.text.now in
    let line = c.args.line.now in
    let old = c.args.self.now in
    let words = c.in_ok-words.ensures in
    undef_done text line.source.now old _ c.args.early c.in-Some.name (ap line_kind (sym line.same) ∙ c.requires.kind) c.requires.early
    (sym (ap₂ only_name words.tokens words.failure) ∙ sym c.in-Some.ensures) c.in_default-early.is (c.undefine.ensures ∙ ap (undefined (table_of old.macros)) c.as_slice.ensures) refl refl refl
