use Rattle.std.proofs.Common.{ap, sym, ◌∙◌, nat_eq}
use Rattle.std.specs.Prelude.{option_map}
use Rattle.std.specs.Option.{option_flatten}
use Rattle.css_macros.specs.Numbers.{word_at}
use Rattle.css_macros.specs.NumberedWords.{words_of}
use Rattle.css_macros.specs.Entries.{macro_value}
use Rattle.css_macros.proofs.MacroTables.{lookup-table, option_map-copied, found_definition, listed_behind}
use Rattle.css_macros.proofs.macros.Macros.macro_numbered.Goals as goal

pub returns-in_err-get-clause-found : goal.returns-in_err-get-clause-found
returns-in_err-get-clause-found c =
    let words = words_of c.args.self.now.words in
    let found = lookup-table words (word_at words c.args.number) c.args.number c.args.self.now.names.entries c.requires c.args.self.now.numbered in
    ap (λ r. option_map (λ m. macro_value m.now) r) c.from_residual.ensures
    ∙ sym (ap (λ o. option_flatten o) (found ∙ ap (λ o. option_map (λ v. option_map macro_value v) o) (sym c.in_err-get.ensures.value)))

pub returns-clause-found : goal.returns-clause-found
returns-clause-found c =
    let words = words_of c.args.self.now.words in
    let found = lookup-table words (word_at words c.args.number) c.args.number c.args.self.now.names.entries c.requires c.args.self.now.numbered in
    option_map-copied macro_value c.as_ref.result ∙ ap (λ o. option_map macro_value o) c.as_ref.ensures.value
    ∙ sym (ap (λ o. option_flatten o) (found ∙ ap (λ o. option_map (λ v. option_map macro_value v) o) (sym c.in_ok-get.ensures.value)))

pub returns-clause-listed : goal.returns-clause-listed
returns-clause-listed c =
    let words = words_of c.args.self.now.words in
    listed_behind words c.as_ref.result c.in_ok-get.field-0.now c.as_ref.ensures.value
    (found_definition words (nat_eq c.args.number) c.args.self.now.names.entries c.in_ok-get.field-0.now (sym c.in_ok-get.ensures.value) c.args.self.now.numbered)
