use Rattle.std.proofs.Common.{ap, ◌∙◌}
use Rattle.std.specs.Vec.Iter.{into_iter_items}
use Rattle.css_objects.specs.Table.{Table, all_entries, objects}
use Rattle.css_objects.specs.Versions.{versions, kept_in}
use Rattle.css_objects.proofs.Kept.{table-kept, kept-all_objects, kept-all_versions}
use Rattle.css_objects.proofs.table.ObjectTable.regenerated.Goals as goal

pub invariant_of-self : goal.invariant_of-self
invariant_of-self c =
    let t = c.self.inside in
    table-kept t.rows t.blocks c.keep.new.self c.keep-2.new.self t.written (into_iter_items c.into_iter-kept.result) (into_iter_items c.keep.new.kept) c.self.invariant
    c.keep.ensures.windows c.keep.ensures.versions c.keep-2.ensures.windows c.keep-2.ensures.versions

pub returns-clause-versions : goal.returns-clause-versions
returns-clause-versions c =
    let t = c.self.inside in
    kept-all_versions t.rows t.blocks c.keep.new.self c.keep-2.new.self (into_iter_items c.into_iter-kept.result) c.keep.ensures.versions
    (c.keep-2.ensures.versions ∙ ap (kept_in (versions t.blocks)) c.keep.ensures.rest)
    ∙ ap (kept_in (versions (all_entries (record { rows = t.rows; blocks = t.blocks })))) c.into_iter-kept.ensures.rest
    ∙ ap (λ (x : Table). kept_in (versions (all_entries x)) c.args.kept.items) c.self.view_is

pub returns-clause-objects : goal.returns-clause-objects
returns-clause-objects c =
    let t = c.self.inside in
    kept-all_objects t.rows t.blocks c.keep.new.self c.keep-2.new.self (into_iter_items c.into_iter-kept.result) (into_iter_items c.keep.new.kept)
    c.keep.ensures.windows c.keep.ensures.versions c.keep-2.ensures.windows c.keep-2.ensures.versions
    ∙ ap (λ (x : Table). objects x) c.self.view_is
