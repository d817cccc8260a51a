use Rattle.std.proofs.Common.{ap, sym, ◌∙◌, None, bytes_eq, nat_eq}
use Rattle.std.specs.Prelude.{option_map}
use Rattle.std.specs.List.{list_all}
use Rattle.css_macros.specs.NumberedWords.{words_of}
use Rattle.css_macros.specs.Entries.{macro_value, is_entry, table_with}
use Rattle.css_macros.proofs.Numbering.{position-mapped}
use Rattle.css_macros.proofs.MacroTables.{lookup-none, lookup-table, set_value-table, set_value-none, entries-clear}
use Rattle.css_macros.proofs.macros.Macros.undefine.Goals as goal

pub returns-in_default : goal.returns-in_default
returns-in_default c =
    let words = words_of c.args.self.now.words in
    let entries = c.args.self.now.names.entries in
    let none = sym (position-mapped (bytes_eq c.args.name.now) (λ k. k.items) c.args.self.now.words.keys) ∙ sym c.in_default.ensures.index in
    sym (set_value-none (bytes_eq c.args.name.now) (table_with words entries) None (lookup-none words c.args.name.now entries none c.args.self.now.numbered))

pub invariant_of-self : goal.invariant_of-self
invariant_of-self c =
    let words = words_of c.args.self.now.words in
    record {
      numbered = ap (list_all (is_entry words)) (c.get_mut.follows.holds None).0
          ∙ entries-clear words (nat_eq c.in-Some.number) c.args.self.now.names.entries c.args.self.now.numbered;
    }

pub returns-in-Some-get_mut : goal.returns-in-Some-get_mut
returns-in-Some-get_mut c =
    let words = words_of c.args.self.now.words in
    let number = sym (position-mapped (bytes_eq c.args.name.now) (λ k. k.items) c.args.self.now.words.keys) ∙ sym c.in-Some.ensures.index in
    ap (table_with words) (c.get_mut.follows.holds None).0
    ∙ set_value-table words c.args.name.now c.in-Some.number c.args.self.now.names.entries None number c.args.self.now.numbered

pub returns-in_default-get_mut : goal.returns-in_default-get_mut
returns-in_default-get_mut c =
    let words = words_of c.args.self.now.words in
    let entries = c.args.self.now.names.entries in
    let number = sym (position-mapped (bytes_eq c.args.name.now) (λ k. k.items) c.args.self.now.words.keys) ∙ sym c.in-Some.ensures.index in
    ap (λ names. table_with words names.entries) c.get_mut.follows.holds-at-none
    ∙ sym (set_value-none (bytes_eq c.args.name.now) (table_with words entries) None
    (lookup-table words c.args.name.now c.in-Some.number entries number c.args.self.now.numbered
    ∙ ap (λ o. option_map (λ d. option_map macro_value d) o) (sym c.in_default-get_mut.ensures.value)))
