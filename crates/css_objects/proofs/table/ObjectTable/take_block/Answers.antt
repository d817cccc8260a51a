use Rattle.std.proofs.Common.{slice_get, Some, ◌≡◌, sym, subst}
use Rattle.std.proofs.lemmas.Option.{slice_get_within}
use Rattle.css_objects.specs.Table.{Entry, Table, windows}
use Rattle.css_arguments.proofs.Lists.{map_place}
use Rattle.css_objects.proofs.Taking.{table-without_block}
use Rattle.css_objects.proofs.table.ObjectTable.take_block.Goals as goal

pub invariant_of-self : goal.invariant_of-self
invariant_of-self c =
    let t = c.self.inside in
    let stands : slice_get (windows t.blocks) c.args.found.place ≡ Some c.args.found.window =
    subst (λ (x : Table). slice_get (windows x.blocks) c.args.found.place ≡ Some c.args.found.window) (sym c.self.view_is) c.requires.stands in
    let found = map_place (λ (e : Entry). e.window) t.blocks c.args.found.place c.args.found.window stands in
    rw c.remove.ensures.rest (table-without_block t.rows t.blocks t.written c.self.invariant c.args.found.place (slice_get_within t.blocks c.args.found.place found.0 found.1))
