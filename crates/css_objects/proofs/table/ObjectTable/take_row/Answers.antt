use Rattle.std.proofs.Common.{slice_get, Some, ◌≡◌, sym, subst, false}
use Rattle.std.proofs.lemmas.Option.{slice_get_within}
use Rattle.css_objects.specs.Table.{Entry, Table, windows, is_written}
use Rattle.css_arguments.proofs.Lists.{map_place}
use Rattle.css_objects.proofs.Taking.{table-without_row}
use Rattle.css_objects.proofs.table.ObjectTable.take_row.Goals as goal

pub invariant_of-self : goal.invariant_of-self
invariant_of-self c =
    let t = c.self.inside in
    let stands : slice_get (windows t.rows) c.args.found.place ≡ Some c.args.found.window =
    subst (λ (x : Table). slice_get (windows x.rows) c.args.found.place ≡ Some c.args.found.window) (sym c.self.view_is) c.requires.stands in
    let unwritten : (e : Entry) → slice_get t.rows c.args.found.place ≡ Some e → is_written e ≡ false =
    subst (λ (x : Table). (e : Entry) → slice_get x.rows c.args.found.place ≡ Some e → is_written e ≡ false) (sym c.self.view_is) c.requires.unwritten in
    let found = map_place (λ (e : Entry). e.window) t.rows c.args.found.place c.args.found.window stands in
    rw c.remove.ensures.rest
    (table-without_row t.rows t.blocks t.written c.self.invariant c.args.found.place found.0 found.1 (slice_get_within t.rows c.args.found.place found.0 found.1) (unwritten found.0 found.1)
    (rw c.remove.ensures.rest at c.remove.ensures.ascends))
