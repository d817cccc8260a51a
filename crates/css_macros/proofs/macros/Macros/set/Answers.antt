use Rattle.std.proofs.Common.{◌≡◌, ◌∙◌, ap, Some, Option, bytes_eq}
use Rattle.std.specs.List.{list_all}
use Rattle.indexmap.specs.IndexMap.{insert_entry}
use Rattle.css_macros.specs.Numbers.{number_in}
use Rattle.css_macros.specs.NumberedWords.{words_of}
use Rattle.css_macros.specs.MacroTokens.{plain_kinds}
use Rattle.css_macros.specs.Entries.{is_entry, table_with}
use Rattle.css_macros.specs.declared.macros.Definition.{Definition}
use Rattle.css_macros.proofs.Numbering.{number-grows}
use Rattle.css_macros.proofs.MacroTables.{grown-entries, grown-table, entries-insert, insert-table, either_way, always_err}
use Rattle.css_macros.proofs.macros.Macros.set.Goals as goal

pub invariant_of-self : goal.invariant_of-self
invariant_of-self c =
    let words = words_of c.args.self.now.words in
    let grows = c.number_of_word.ensures.grows in
    record { numbered = grown-entries words grows.0 (words_of c.number_of_word.new.words) c.args.self.now.names.entries grows.1 c.args.self.now.numbered }

pub returns-in_err-number-clause-no_memory : goal.returns-in_err-number-clause-no_memory
returns-in_err-number-clause-no_memory c =
    let words = words_of c.args.self.now.words in
    let grows = c.number_of_word.ensures.grows in
    let same = grown-table words grows.0 (words_of c.number_of_word.new.words) c.args.self.now.names.entries grows.1 c.args.self.now.numbered in
    always_err c.from_residual.result same

pub invariant_of-self-in-Break-branch-2 : goal.invariant_of-self-in-Break-branch-2
invariant_of-self-in-Break-branch-2 c =
    let entries = c.args.self.now.names.entries in
    let first = c.number_of_word.ensures.grows in
    let second = c.listed_tokens.ensures.grows in
    let once = grown-entries (words_of c.args.self.now.words) first.0 (words_of c.number_of_word.new.words) entries first.1 c.args.self.now.numbered in
    record { numbered = grown-entries (words_of c.number_of_word.new.words) second.0 (words_of c.listed_tokens.new.words) entries second.1 once }

pub returns-in_err-tokens-clause-no_memory : goal.returns-in_err-tokens-clause-no_memory
returns-in_err-tokens-clause-no_memory c =
    let entries = c.args.self.now.names.entries in
    let first = c.number_of_word.ensures.grows in
    let second = c.listed_tokens.ensures.grows in
    let once = grown-entries (words_of c.args.self.now.words) first.0 (words_of c.number_of_word.new.words) entries first.1 c.args.self.now.numbered in
    let same = grown-table (words_of c.number_of_word.new.words) second.0 (words_of c.listed_tokens.new.words) entries second.1 once
    ∙ grown-table (words_of c.args.self.now.words) first.0 (words_of c.number_of_word.new.words) entries first.1 c.args.self.now.numbered in
    always_err c.from_residual-in_err-tokens.result same

pub invariant_of-self-2 : goal.invariant_of-self-2
invariant_of-self-2 c =
    let entries = c.args.self.now.names.entries in
    let first = c.number_of_word.ensures.grows in
    let second = c.listed_tokens.ensures.grows in
    let words = words_of c.listed_tokens.new.words in
    let once = grown-entries (words_of c.args.self.now.words) first.0 (words_of c.number_of_word.new.words) entries first.1 c.args.self.now.numbered in
    let twice = grown-entries (words_of c.number_of_word.new.words) second.0 words entries second.1 once in
    let number : number_in words c.args.name.now ≡ Some c.in_ok-number.number =
    ap (λ ws. number_in ws c.args.name.now) second.1
    ∙ number-grows (words_of c.number_of_word.new.words) second.0 c.args.name.now c.in_ok-number.number c.in_ok-number.ensures.number in
    let d : Option Definition = Some (record { tokens = c.in_ok-tokens.tokens; predefined = c.args.predefined }) in
    record {
      numbered = either_way c.insert.result c.insert.ensures.entries c.insert.ensures.err
          (λ done. ap (list_all (is_entry words)) done ∙ entries-insert words c.args.name.now c.in_ok-number.number entries d number c.in_ok-tokens.ensures.listed twice)
          (λ same. ap (list_all (is_entry words)) same ∙ twice);
    }

pub returns-in_err-insert-clause-no_memory : goal.returns-in_err-insert-clause-no_memory
returns-in_err-insert-clause-no_memory c =
    let entries = c.args.self.now.names.entries in
    let first = c.number_of_word.ensures.grows in
    let second = c.listed_tokens.ensures.grows in
    let once = grown-entries (words_of c.args.self.now.words) first.0 (words_of c.number_of_word.new.words) entries first.1 c.args.self.now.numbered in
    let same = ap (table_with (words_of c.listed_tokens.new.words)) c.in_err-insert.ensures.err
    ∙ grown-table (words_of c.number_of_word.new.words) second.0 (words_of c.listed_tokens.new.words) entries second.1 once
    ∙ grown-table (words_of c.args.self.now.words) first.0 (words_of c.number_of_word.new.words) entries first.1 c.args.self.now.numbered in
    always_err c.from_residual-in_err-insert.result same

pub returns-clause-ok : goal.returns-clause-ok
returns-clause-ok c =
    let entries = c.args.self.now.names.entries in
    let first = c.number_of_word.ensures.grows in
    let second = c.listed_tokens.ensures.grows in
    let words = words_of c.listed_tokens.new.words in
    let once = grown-entries (words_of c.args.self.now.words) first.0 (words_of c.number_of_word.new.words) entries first.1 c.args.self.now.numbered in
    let twice = grown-entries (words_of c.number_of_word.new.words) second.0 words entries second.1 once in
    let number : number_in words c.args.name.now ≡ Some c.in_ok-number.number =
    ap (λ ws. number_in ws c.args.name.now) second.1
    ∙ number-grows (words_of c.number_of_word.new.words) second.0 c.args.name.now c.in_ok-number.number c.in_ok-number.ensures.number in
    let d : Option Definition = Some (record { tokens = c.in_ok-tokens.tokens; predefined = c.args.predefined }) in
    ap (table_with words) c.in_ok-insert.ensures.entries
    ∙ insert-table words c.args.name.now c.in_ok-number.number entries d number twice
    ∙ ap (λ ts. insert_entry bytes_eq (table_with words entries) c.args.name.now (Some (record { tokens = ts; predefined = c.args.predefined }))) c.in_ok-tokens.ensures.kinds
    ∙ ap (λ table. insert_entry bytes_eq table c.args.name.now (Some (record { tokens = plain_kinds c.args.tokens.items; predefined = c.args.predefined })))
    (grown-table (words_of c.number_of_word.new.words) second.0 words entries second.1 once
    ∙ grown-table (words_of c.args.self.now.words) first.0 (words_of c.number_of_word.new.words) entries first.1 c.args.self.now.numbered)
