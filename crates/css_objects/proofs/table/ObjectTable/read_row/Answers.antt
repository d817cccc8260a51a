use Rattle.std.proofs.Common.{◌≡◌, OnOk, None, false, sym, subst, refl}
use Rattle.std.specs.List.{list_any}
use Rattle.std.specs.List.Sorted.{IsPermutation}
use Rattle.css_semantics.specs.Rules.{overlap}
use Rattle.css_record.specs.Windows.{window}
use Rattle.css_objects.specs.declared.version.Held.TheVariants as held
use Rattle.css_objects.specs.Table.{Table, all_entries, objects}
use Rattle.css_objects.specs.Naming.{with_read}
use Rattle.css_objects.proofs.Adding.{none_in_rows, row_left, row_read, read_row}
use Rattle.css_objects.proofs.table.ObjectTable.read_row.Goals as goal

pub invariant_of-self : goal.invariant_of-self
invariant_of-self g c =
    let t = c.self.inside in
    let clear = subst (λ (x : Table). list_any (λ o. overlap (window c.args.window) o.window) (objects x) ≡ false) (sym c.self.view_is) c.requires.clear in
    row_left t.rows t.blocks t.written c.self.invariant c.args.window c.requires.is_window clear
    (none_in_rows t.rows t.blocks t.written c.self.invariant c.args.window c.requires.is_window clear c.requires.one c.in-None.ensures.found) (held.Kept c.args.bytes None)
    c.insert.result c.insert.new.self c.requires.one refl c.insert.ensures.ok c.insert.ensures.err

pub returns-in-Some-clause-ok : goal.returns-in-Some-clause-ok
returns-in-Some-clause-ok g c =
    let t = c.self.inside in
    let clear = subst (λ (x : Table). list_any (λ o. overlap (window c.args.window) o.window) (objects x) ≡ false) (sym c.self.view_is) c.requires.clear in
    subst (λ (x : Table). IsPermutation (all_entries x) (with_read (all_entries x) c.args.window c.args.bytes)) c.self.view_is
    (read_row t.rows t.blocks t.written c.self.invariant c.args.window c.requires.is_window clear c.in-Some.field-0 c.args.bytes c.in-Some.ensures.found)

pub returns-in-None-clause-ok : goal.returns-in-None-clause-ok
returns-in-None-clause-ok g c =
    let t = c.self.inside in
    let clear = subst (λ (x : Table). list_any (λ o. overlap (window c.args.window) o.window) (objects x) ≡ false) (sym c.self.view_is) c.requires.clear in
    subst (λ (x : Table). OnOk c.insert.result (IsPermutation (all_entries (record { rows = c.insert.new.self; blocks = t.blocks })) (with_read (all_entries x) c.args.window c.args.bytes))) c.self.view_is
    (row_read t.rows t.blocks t.written c.self.invariant c.args.window c.requires.is_window clear
    (none_in_rows t.rows t.blocks t.written c.self.invariant c.args.window c.requires.is_window clear c.requires.one c.in-None.ensures.found) c.args.bytes c.insert.result c.insert.new.self c.insert.ensures.ok)
