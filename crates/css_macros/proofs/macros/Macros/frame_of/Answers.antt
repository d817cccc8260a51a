use Rattle.std.proofs.Common.{[], ap, sym, ◌∙◌, subst, refl}
use Rattle.std.specs.Option.{option_flatten}
use Rattle.css_base.specs.Tokens.{Word}
use Rattle.css_macros.specs.Macros.{macro_of}
use Rattle.css_macros.specs.Numbers.{number_in}
use Rattle.css_macros.specs.NumberedWords.{words_of}
use Rattle.css_macros.specs.MacroTables.{table_of}
use Rattle.css_macros.specs.Expansions.{Replaces}
use Rattle.css_macros.specs.declared.expansion.Frame.{Frame}
use Rattle.css_macros.proofs.Numbering.{number_word}
use Rattle.css_macros.proofs.MacroTables.{lookup-none}
use Rattle.css_macros.proofs.Replacing.{no_macro, macro-replaces}
use Rattle.css_macros.proofs.macros.Macros.frame_of.Goals as goal

pub returns-in_err-number : goal.returns-in_err-number
returns-in_err-number c =
    let words = words_of c.args.self.now.words in
    rw c.from_residual.ensures
    (no_macro (table_of c.args.self.now) c.args.name.now
    (ap (λ o. option_flatten o) (lookup-none words c.args.name.now c.args.self.now.names.entries (sym c.in_err-number.ensures) c.args.self.now.numbered)))

pub macro_numbered-requires : goal.macro_numbered-requires
macro_numbered-requires c =
    let words = words_of c.args.self.now.words in
    let number = sym c.in_ok-number.ensures in
    ap (number_in words) (number_word words c.args.name.now c.in_ok-number.number number) ∙ number

pub returns-in_err-found : goal.returns-in_err-found
returns-in_err-found c =
    let words = words_of c.args.self.now.words in
    let word = number_word words c.args.name.now c.in_ok-number.number (sym c.in_ok-number.ensures) in
    rw c.from_residual-in_err-found.ensures
    (no_macro (table_of c.args.self.now) c.args.name.now (ap (macro_of (table_of c.args.self.now)) (sym word) ∙ sym c.in_err-found.ensures.found))

pub returns : goal.returns
returns c =
    let words = words_of c.args.self.now.words in
    let table = table_of c.args.self.now in
    let number = sym c.in_ok-number.ensures in
    let word = number_word words c.args.name.now c.in_ok-number.number number in
    let f : Frame = record { number = c.in_ok-number.number; rest = c.as_slice.result } in
    subst (λ w. Replaces words table (Word w) f) word
    (macro-replaces words table [] c.in_ok-number.number c.in_ok-found.found.now f (ap (number_in words) word ∙ number) refl (sym c.in_ok-found.ensures.found)
    c.in_ok-found.ensures.listed refl c.as_slice.ensures.value)
