use Rattle.std.proofs.Common.{◌++◌, sym, ap, ◌∙◌}
use Rattle.std.proofs.lemmas.List.{map-append}
use Rattle.css_objects.specs.Table.{Entry, Table, all_entries}
use Rattle.css_objects.specs.Versions.{versions, made_in}
use Rattle.css_objects.proofs.Kept.{made-append}
use Rattle.css_objects.proofs.table.ObjectTable.made.Goals as goal

pub returns : goal.returns
returns c =
    let t = c.self.inside in
    c.in_ok-add_made-2.ensures
    ∙ ap (λ xs. xs ++ made_in (versions t.blocks)) (c.in_ok-add_made.ensures ∙ ap (λ xs. xs ++ made_in (versions t.rows)) c.new-names.ensures.items)
    ∙ sym (made-append (versions t.rows) (versions t.blocks))
    ∙ ap made_in (sym (map-append (λ (e : Entry). e.version) t.rows t.blocks))
    ∙ ap (λ (x : Table). made_in (versions (all_entries x))) c.self.view_is
