use Rattle.std.proofs.Common.{ap, sym, ◌∙◌}
use Rattle.std.specs.Prelude.{option_map}
use Rattle.std.specs.Option.{option_flatten}
use Rattle.css_macros.specs.Macros.{macro_of}
use Rattle.css_macros.specs.Numbers.{number_in}
use Rattle.css_macros.specs.NumberedWords.{words_of}
use Rattle.css_macros.specs.Entries.{macro_value}
use Rattle.css_macros.specs.MacroTables.{table_of}
use Rattle.css_macros.proofs.Numbering.{number_word}
use Rattle.css_macros.proofs.MacroTables.{lookup-none}
use Rattle.css_macros.proofs.macros.Macros.macro_of.Goals as goal

pub returns-in_err-number_of : goal.returns-in_err-number_of
returns-in_err-number_of c =
    let words = words_of c.args.self.now.words in
    ap (λ r. option_map (λ m. macro_value m.now) r) c.from_residual.ensures
    ∙ sym (ap (λ o. option_flatten o) (lookup-none words c.args.name.now c.args.self.now.names.entries (sym c.in_err-number_of.ensures) c.args.self.now.numbered))

pub macro_numbered-requires : goal.macro_numbered-requires
macro_numbered-requires c =
    let words = words_of c.args.self.now.words in
    let number = sym c.in_ok-number_of.ensures in
    ap (number_in words) (number_word words c.args.name.now c.in_ok-number_of.field-0 number) ∙ number

pub returns : goal.returns
returns c =
    let words = words_of c.args.self.now.words in
    c.macro_numbered.ensures.found
    ∙ ap (macro_of (table_of c.args.self.now)) (number_word words c.args.name.now c.in_ok-number_of.field-0 (sym c.in_ok-number_of.ensures))
