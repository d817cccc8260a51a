use Rattle.std.proofs.Common.{◌≡◌, OnOk, false, sym, subst}
use Rattle.std.specs.List.{list_any}
use Rattle.std.specs.List.Sorted.{IsPermutation}
use Rattle.css_semantics.specs.Rules.{overlap}
use Rattle.css_record.specs.Windows.{window}
use Rattle.css_objects.specs.declared.version.Held.TheVariants as held
use Rattle.css_objects.specs.Table.{Table, all_entries, objects}
use Rattle.css_objects.specs.Naming.{with_version}
use Rattle.css_objects.proofs.Adding.{none_in_blocks, block_left, block_made}
use Rattle.css_objects.proofs.Making.{table-remade_block, block_remade}
use Rattle.css_objects.proofs.table.ObjectTable.make_block.Goals as goal

pub invariant_of-self : goal.invariant_of-self
invariant_of-self g c =
    let t = c.self.inside in
    let clear = subst (λ (x : Table). list_any (λ o. overlap (window c.args.window) o.window) (objects x) ≡ false) (sym c.self.view_is) c.requires.clear in
    table-remade_block t.rows t.blocks t.written c.self.invariant c.args.window c.requires.is_window clear c.args.task c.args.out c.in-Some.f c.in-Some.ensures.found c.set.new.self c.set.ensures.windows c.set.ensures.versions

pub invariant_of-self-in-None : goal.invariant_of-self-in-None
invariant_of-self-in-None g c =
    let t = c.self.inside in
    let clear = subst (λ (x : Table). list_any (λ o. overlap (window c.args.window) o.window) (objects x) ≡ false) (sym c.self.view_is) c.requires.clear in
    block_left t.rows t.blocks t.written c.self.invariant c.args.window c.requires.is_window clear
    (none_in_blocks t.rows t.blocks t.written c.self.invariant c.args.window c.requires.is_window clear c.requires.several c.in-None.ensures.found) (held.Made c.args.task c.args.out)
    c.insert.result c.insert.new.self c.requires.several c.insert.ensures.ok c.insert.ensures.err

pub returns-in-Some-clause-ok : goal.returns-in-Some-clause-ok
returns-in-Some-clause-ok g c =
    let t = c.self.inside in
    let clear = subst (λ (x : Table). list_any (λ o. overlap (window c.args.window) o.window) (objects x) ≡ false) (sym c.self.view_is) c.requires.clear in
    subst (λ (x : Table). IsPermutation (all_entries (record { rows = t.rows; blocks = c.set.new.self })) (with_version (all_entries x) c.args.window (held.Made c.args.task c.args.out))) c.self.view_is
    (block_remade t.rows t.blocks t.written c.self.invariant c.args.window c.requires.is_window clear c.args.task c.args.out c.in-Some.f c.in-Some.ensures.found c.set.new.self c.set.ensures.windows c.set.ensures.versions)

pub returns-in-None-clause-ok : goal.returns-in-None-clause-ok
returns-in-None-clause-ok g c =
    let t = c.self.inside in
    let clear = subst (λ (x : Table). list_any (λ o. overlap (window c.args.window) o.window) (objects x) ≡ false) (sym c.self.view_is) c.requires.clear in
    subst (λ (x : Table). OnOk c.insert.result (IsPermutation (all_entries (record { rows = t.rows; blocks = c.insert.new.self })) (with_version (all_entries x) c.args.window (held.Made c.args.task c.args.out)))) c.self.view_is
    (block_made t.rows t.blocks t.written c.self.invariant c.args.window c.requires.is_window clear
    (none_in_blocks t.rows t.blocks t.written c.self.invariant c.args.window c.requires.is_window clear c.requires.several c.in-None.ensures.found) (held.Made c.args.task c.args.out) c.insert.result c.insert.new.self c.insert.ensures.ok)
