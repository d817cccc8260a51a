use Rattle.std.proofs.Common.{◌∙◌, ap, codes, bytes_eq, List, ℕ}
use Rattle.indexmap.specs.IndexMap.{insert_entry}
use Rattle.css_base.specs.Tokens.{Kind}
use Rattle.css_macros.specs.Macros.{Table, predefined_macro, null_tokens, end_of_file_tokens}
use Rattle.css_macros.specs.MacroTables.{table_of}
use Rattle.css_macros.proofs.macros.Macros.new.Goals as goal

-- A table with one more predefined macro.
abbrev with_macro : Table → List ℕ → List Kind → Table
with_macro table name tokens = insert_entry bytes_eq table name (predefined_macro tokens)

pub returns : goal.returns
returns c =
    let null = c.in_ok-set.ensures.ok
    ∙ ap (λ tokens. with_macro (table_of c.empty-macros.result) (codes "NULL") tokens) c.in_ok-null.ensures
    ∙ ap (λ table. with_macro table (codes "NULL") null_tokens) c.empty-macros.ensures in
    c.in_ok-set-2.ensures.ok
    ∙ ap (λ tokens. with_macro (table_of c.set.new.self) (codes "EOF") tokens) c.in_ok-end_of_file.ensures
    ∙ ap (λ table. with_macro table (codes "EOF") end_of_file_tokens) null
