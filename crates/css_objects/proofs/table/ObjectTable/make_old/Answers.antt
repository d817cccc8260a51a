use Rattle.std.proofs.Common.{◌≡◌, false, sym, subst, arith}
use Rattle.std.proofs.lemmas.Result.{err_from_is_err_and}
use Rattle.std.specs.List.{list_any}
use Rattle.std.specs.List.Sorted.{IsPermutation}
use Rattle.std.proofs.lemmas.List.{length-map}
use Rattle.std.proofs.lemmas.Option.{slice_get_within}
use Rattle.css_semantics.specs.Rules.{overlap}
use Rattle.css_record.specs.Windows.{window}
use Rattle.css_objects.specs.declared.version.Held.TheVariants as held
use Rattle.css_objects.specs.Ordered.{IsOfBase}
use Rattle.css_objects.specs.Table.{Entry, Table, all_entries, objects, windows}
use Rattle.css_objects.specs.Naming.{with_version}
use Rattle.css_objects.proofs.Making.{row_remade, table-remade, table-written, is_old_written, is_old_unwritten}
use Rattle.css_objects.proofs.table.ObjectTable.make_old.Goals as goal

pub invariant_of-self : goal.invariant_of-self
invariant_of-self g c =
    let t = c.self.inside in
    let clear = subst (λ (x : Table). list_any (λ o. overlap (window c.args.window) o.window) (objects x) ≡ false) (sym c.self.view_is) c.requires.clear in
    let of = subst (λ (x : Table). IsOfBase (windows x.rows) c.args.window.base c.args.found) (sym c.self.view_is) c.requires.found in
    table-remade t.rows t.blocks t.written c.self.invariant c.args.window c.requires.is_window clear c.args.task c.args.out c.args.found of c.set.new.self c.set.ensures.windows c.set.ensures.versions
    (is_old_written t.rows t.blocks t.written c.self.invariant c.args.window c.requires.is_window clear c.args.task c.args.out c.args.found of c.set.new.self c.set.ensures.windows c.set.ensures.versions c.in-Some.field-0 c.in-Some.ensures.found)

pub set-requires-in-None : goal.set-requires-in-None
set-requires-in-None g c =
    let t = c.self.inside in
    let of = subst (λ (x : Table). IsOfBase (windows x.rows) c.args.window.base c.args.found) (sym c.self.view_is) c.requires.found in
    omega (arith, slice_get_within (windows t.rows) c.args.found.place c.args.found.window of.stands, length-map t.rows (λ (e : Entry). e.window))

pub invariant_of-self-in-None : goal.invariant_of-self-in-None
invariant_of-self-in-None g c =
    let t = c.self.inside in
    let clear = subst (λ (x : Table). list_any (λ o. overlap (window c.args.window) o.window) (objects x) ≡ false) (sym c.self.view_is) c.requires.clear in
    let of = subst (λ (x : Table). IsOfBase (windows x.rows) c.args.window.base c.args.found) (sym c.self.view_is) c.requires.found in
    table-written t.rows t.blocks t.written c.self.invariant c.args.window c.requires.is_window clear c.args.task c.args.out c.args.found of c.set-in-None.new.self c.set-in-None.ensures.windows c.set-in-None.ensures.versions
    (is_old_unwritten t.rows t.blocks t.written c.self.invariant c.args.window c.requires.is_window clear c.args.task c.args.out c.args.found of c.set-in-None.new.self c.set-in-None.ensures.windows c.set-in-None.ensures.versions c.in-None.ensures.found)
    c.in_ok-_place-in-None._place c.in_ok-_place-in-None.ensures.ok.0 c.insert.new.self c.in_ok-_place-in-None.ensures.ok.1 c.in_ok-_place-in-None.ensures.ascends

pub returns-in-Some-clause-ok : goal.returns-in-Some-clause-ok
returns-in-Some-clause-ok g c =
    let t = c.self.inside in
    let clear = subst (λ (x : Table). list_any (λ o. overlap (window c.args.window) o.window) (objects x) ≡ false) (sym c.self.view_is) c.requires.clear in
    let of = subst (λ (x : Table). IsOfBase (windows x.rows) c.args.window.base c.args.found) (sym c.self.view_is) c.requires.found in
    subst (λ (x : Table). IsPermutation (all_entries (record { rows = c.set.new.self; blocks = t.blocks })) (with_version (all_entries x) c.args.window (held.Made c.args.task c.args.out))) c.self.view_is
    (row_remade t.rows t.blocks t.written c.self.invariant c.args.window c.requires.is_window clear c.args.task c.args.out c.args.found of c.set.new.self c.set.ensures.windows c.set.ensures.versions)

pub returns-in_ok-_place-in-None-clause-ok : goal.returns-in_ok-_place-in-None-clause-ok
returns-in_ok-_place-in-None-clause-ok g c =
    let t = c.self.inside in
    let clear = subst (λ (x : Table). list_any (λ o. overlap (window c.args.window) o.window) (objects x) ≡ false) (sym c.self.view_is) c.requires.clear in
    let of = subst (λ (x : Table). IsOfBase (windows x.rows) c.args.window.base c.args.found) (sym c.self.view_is) c.requires.found in
    subst (λ (x : Table). IsPermutation (all_entries (record { rows = c.set-in-None.new.self; blocks = t.blocks })) (with_version (all_entries x) c.args.window (held.Made c.args.task c.args.out))) c.self.view_is
    (row_remade t.rows t.blocks t.written c.self.invariant c.args.window c.requires.is_window clear c.args.task c.args.out c.args.found of c.set-in-None.new.self c.set-in-None.ensures.windows c.set-in-None.ensures.versions)

pub returns-in_err-_place-in-None-clause-ok : goal.returns-in_err-_place-in-None-clause-ok
returns-in_err-_place-in-None-clause-ok g c = let p = err_from_is_err_and c.from_residual.result c.from_residual.ensures.1 in rw p.1 tt
