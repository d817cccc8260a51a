use Rattle.std.proofs.Common.{◌≡◌, ◌∙◌, sym, ap, ap₂, subst, refl, length, map, All, Option, Some}
use Rattle.css_lex.specs.declared.breach.Breach.{Breach}
use Rattle.css_lexemes.specs.LineKinds.{line_kind}
use Rattle.css_macros.specs.Macros.{IsNoDirective, may_define}
use Rattle.css_macros.specs.MacroTables.{table_of}
use Rattle.css_macros.specs.MacroTokens.{plain_kinds}
use Rattle.css_lex.specs.Refusals.{line_breaches}
use Rattle.css_lex.specs.Found.{IsFound, least_of}
use Rattle.css_lex.specs.HashLines.{front_name, behind_name, kind_at}
use Rattle.css_lex.specs.LexState.{state_of, line_of}
use Rattle.css_lex.proofs.LineBreaches.{all_inside}
use Rattle.css_lex.proofs.DefineLines.{define_pieces, no_name, no_object, one_definition, define_malformed, define_unspelled, define_other, define_done, plain_behind}
use Rattle.css_lex.proofs.line.Brought.define.Goals as goal

pub read_words-requires : goal.read_words-requires
read_words-requires c = all_inside 0 (length c.args.numbered.now.text.now) c.args.line.now.source.now c.requires.between

pub returns-in_default-clause-broken : goal.returns-in_default-clause-broken
returns-in_default-clause-broken c b is =
    let text = c.args.numbered.now.text.now in
    let line = c.args.line.now in
    let old = c.args.self.now in
    let words = c.in_ok-words.ensures in
    let same : c.lesser.result ≡ b = cc in
    subst (λ (f : Option Breach). IsFound f (line_breaches text (state_of old) (line_of line.source.now)))
    (ap (λ (l : Breach). least_of c.args.early (Some l)) (sym c.malformed.ensures) ∙ (sym c.lesser.ensures ∙ ap Some same))
    (define_malformed text (state_of old) line.source.now c.args.early (ap line_kind (sym line.same) ∙ c.requires.kind) c.requires.between c.requires.early
    (no_name text line.source.now (sym (ap front_name words.tokens) ∙ c.in_default.ensures)))

pub returns-then-is_function_like-clause-broken : goal.returns-then-is_function_like-clause-broken
returns-then-is_function_like-clause-broken c b is =
    let text = c.args.numbered.now.text.now in
    let line = c.args.line.now in
    let old = c.args.self.now in
    let same : c.lesser-then-is_function_like.result ≡ b = cc in
    subst (λ (f : Option Breach). IsFound f (line_breaches text (state_of old) (line_of line.source.now)))
    (ap (λ (l : Breach). least_of c.args.early (Some l)) (sym c.malformed-then-is_function_like.ensures) ∙ (sym c.lesser-then-is_function_like.ensures ∙ ap Some same))
    (define_malformed text (state_of old) line.source.now c.args.early (ap line_kind (sym line.same) ∙ c.requires.kind) c.requires.between c.requires.early
    (no_object line.source.now (sym c.is_function_like.ensures ∙ c.if-is_function_like.true)))

pub returns-in-Some-least-clause-broken : goal.returns-in-Some-least-clause-broken
returns-in-Some-least-clause-broken c b is =
    let text = c.args.numbered.now.text.now in
    let line = c.args.line.now in
    let old = c.args.self.now in
    let words = c.in_ok-words.ensures in
    let same : c.in-Some-least.breach ≡ b = cc in
    define_unspelled text (state_of old) line.source.now c.args.early c.in-Some.named.name b (ap line_kind (sym line.same) ∙ c.requires.kind) c.requires.between c.requires.early
    (one_definition text line.source.now c.in-Some.named.name (sym (ap front_name words.tokens) ∙ c.in-Some.ensures.0) (sym c.is_function_like.ensures ∙ c.if-is_function_like.false))
    (ap (least_of c.args.early) (sym words.failure) ∙ (sym c.least.ensures ∙ (c.in-Some-least.is ∙ ap Some same)))

pub macro_tokens-requires : goal.macro_tokens-requires
macro_tokens-requires c =
    let text = c.args.numbered.now.text.now in
    let line = c.args.line.now in
    let words = c.in_ok-words.ensures in
    subst (All (λ w. IsNoDirective (kind_at w))) (sym (c.in-Some.ensures.1 ∙ ap behind_name words.tokens)) (plain_behind text (define_pieces line.source.now))

pub returns-then-not-may_define-clause-broken : goal.returns-then-not-may_define-clause-broken
returns-then-not-may_define-clause-broken c b is =
    let text = c.args.numbered.now.text.now in
    let line = c.args.line.now in
    let old = c.args.self.now in
    let words = c.in_ok-words.ensures in
    let same : c.malformed-then-not-may_define.result ≡ b = cc in
    subst (λ (f : Breach). IsFound (Some f) (line_breaches text (state_of old) (line_of line.source.now))) (sym c.malformed-then-not-may_define.ensures ∙ same)
    (define_other text (state_of old) line.source.now c.args.early c.in-Some.named.name (plain_kinds c.in_ok-tokens.tokens.items) (ap line_kind (sym line.same) ∙ c.requires.kind)
    c.requires.between c.requires.early
    (one_definition text line.source.now c.in-Some.named.name (sym (ap front_name words.tokens) ∙ c.in-Some.ensures.0) (sym c.is_function_like.ensures ∙ c.if-is_function_like.false))
    (ap (least_of c.args.early) (sym words.failure) ∙ (sym c.least.ensures ∙ c.in_default-least.is))
    (c.in_ok-tokens.ensures ∙ ap (map kind_at) (c.in-Some.ensures.1 ∙ ap behind_name words.tokens))
    (ap₂ (λ n ts. may_define (table_of old.macros) n (plain_kinds ts)) (sym c.as_slice.ensures) (sym c.as_slice-2.ensures.value) ∙ (sym c.may_define.ensures ∙ c.if-not-may_define.true)))

pub returns-clause-ok : goal.returns-clause-ok
returns-clause-ok c =
    let text = c.args.numbered.now.text.now in
    let line = c.args.line.now in
    let old = c.args.self.now in
    let words = c.in_ok-words.ensures in
    define_done text line.source.now old _ c.args.early c.in-Some.named.name (plain_kinds c.in_ok-tokens.tokens.items) (ap line_kind (sym line.same) ∙ c.requires.kind)
    c.requires.between c.requires.early
    (one_definition text line.source.now c.in-Some.named.name (sym (ap front_name words.tokens) ∙ c.in-Some.ensures.0) (sym c.is_function_like.ensures ∙ c.if-is_function_like.false))
    (ap (least_of c.args.early) (sym words.failure) ∙ (sym c.least.ensures ∙ c.in_default-least.is))
    (c.in_ok-tokens.ensures ∙ ap (map kind_at) (c.in-Some.ensures.1 ∙ ap behind_name words.tokens))
    (ap₂ (λ n ts. may_define (table_of old.macros) n (plain_kinds ts)) (sym c.as_slice.ensures) (sym c.as_slice-2.ensures.value) ∙ (sym c.may_define.ensures ∙ c.if-not-may_define.false))
    c.in_ok-define.ensures.ok refl refl refl
