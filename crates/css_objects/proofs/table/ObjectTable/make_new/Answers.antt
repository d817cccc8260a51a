use Rattle.std.proofs.Common.{◌≡◌, false, not, ap, sym, subst, refl}
use Rattle.std.proofs.lemmas.Bool.{eq-eqb}
use Rattle.std.proofs.lemmas.Result.{err_from_is_err_and}
use Rattle.std.specs.List.{list_any}
use Rattle.std.specs.List.Sorted.{IsPermutation}
use Rattle.css_semantics.specs.Rules.{overlap}
use Rattle.css_record.specs.Windows.{window}
use Rattle.css_objects.specs.declared.version.Held.TheVariants as held
use Rattle.css_objects.specs.Ordered.{HasNone}
use Rattle.css_objects.specs.Table.{Table, is_other, all_entries, objects, windows}
use Rattle.css_objects.specs.Naming.{with_version}
use Rattle.css_objects.proofs.Keeping.{not_there}
use Rattle.css_objects.proofs.Adding.{none_in_rows, row_added, with_new_version, filter-insert_false}
use Rattle.css_objects.proofs.Making.{none_written, table-made_row}
use Rattle.css_objects.proofs.table.ObjectTable.make_new.Goals as goal

pub insert-requires : goal.insert-requires
insert-requires g c =
    let t = c.self.inside in
    let clear = subst (λ (x : Table). list_any (λ o. overlap (window c.args.window) o.window) (objects x) ≡ false) (sym c.self.view_is) c.requires.clear in
    none_written t.rows t.blocks t.written c.self.invariant c.args.window c.requires.is_window clear c.args.task c.args.out
    (subst (λ (x : Table). HasNone (windows x.rows) c.args.window.base) (sym c.self.view_is) c.requires.none)

pub invariant_of-self-in-Ok : goal.invariant_of-self-in-Ok
invariant_of-self-in-Ok g c =
    let t = c.self.inside in
    let clear = subst (λ (x : Table). list_any (λ o. overlap (window c.args.window) o.window) (objects x) ≡ false) (sym c.self.view_is) c.requires.clear in
    let none = subst (λ (x : Table). HasNone (windows x.rows) c.args.window.base) (sym c.self.view_is) c.requires.none in
    table-made_row t.rows t.blocks t.written c.self.invariant c.args.window c.requires.is_window clear c.args.task c.args.out c.requires.one
    (none_in_rows t.rows t.blocks t.written c.self.invariant c.args.window c.requires.is_window clear c.requires.one none)
    c.insert-2.new.self c.in-Ok.ensures.ok c.in_ok-_place._place c.in_ok-_place.ensures.ok.0 c.insert.new.self c.in_ok-_place.ensures.ok.1 c.in_ok-_place.ensures.ascends

pub invariant_of-self-in-Err : goal.invariant_of-self-in-Err
invariant_of-self-in-Err g c =
    let t = c.self.inside in
    let w = c.args.window in
    let clear = subst (λ (x : Table). list_any (λ o. overlap (window w) o.window) (objects x) ≡ false) (sym c.self.view_is) c.requires.clear in
    let none = none_written t.rows t.blocks t.written c.self.invariant w c.requires.is_window clear c.args.task c.args.out
    (subst (λ (x : Table). HasNone (windows x.rows) w.base) (sym c.self.view_is) c.requires.none) in
    rw (c.in-Err.ensures.err, c.drop_base.ensures.rest, c.in_ok-_place.ensures.ok.1, filter-insert_false (is_other w.base) t.written c.in_ok-_place._place w (ap not (eq-eqb w.base w.base refl)), not_there t.written w.base none)
    c.self.invariant

pub returns-in-Ok-clause-ok : goal.returns-in-Ok-clause-ok
returns-in-Ok-clause-ok g c =
    let t = c.self.inside in
    let clear = subst (λ (x : Table). list_any (λ o. overlap (window c.args.window) o.window) (objects x) ≡ false) (sym c.self.view_is) c.requires.clear in
    let none = subst (λ (x : Table). HasNone (windows x.rows) c.args.window.base) (sym c.self.view_is) c.requires.none in
    let new = none_in_rows t.rows t.blocks t.written c.self.invariant c.args.window c.requires.is_window clear c.requires.one none in
    subst (λ (x : Table). IsPermutation (all_entries (record { rows = c.insert-2.new.self; blocks = t.blocks })) (with_version (all_entries x) c.args.window (held.Made c.args.task c.args.out))) c.self.view_is
    (subst (IsPermutation (all_entries (record { rows = c.insert-2.new.self; blocks = t.blocks })))
    (sym (with_new_version t.rows t.blocks t.written c.self.invariant c.args.window c.requires.is_window clear new (held.Made c.args.task c.args.out)))
    (row_added t.rows t.blocks t.written c.self.invariant c.args.window c.requires.is_window clear new (held.Made c.args.task c.args.out) c.insert-2.new.self c.in-Ok.ensures.ok))

pub returns-in_err-_place-clause-ok : goal.returns-in_err-_place-clause-ok
returns-in_err-_place-clause-ok g c = let p = err_from_is_err_and c.from_residual.result c.from_residual.ensures.1 in rw p.1 tt
