use Rattle.std.proofs.Common.{◌≡◌, Option, Some, None, MatchOption, sym, ap, ◌∙◌, subst}
use Rattle.css_objects.specs.declared.version.Held.{Held}
use Rattle.css_objects.specs.Table.{Table, all_entries}
use Rattle.css_objects.specs.Naming.{version_of}
use Rattle.css_objects.proofs.Holding.{version_left, version_right}
use Rattle.css_objects.proofs.table.ObjectTable.held.Goals as goal

pub returns-in-Some : goal.returns-in-Some
returns-in-Some g c =
    let t = c.self.inside in
    subst (λ (x : Table). version_of (all_entries x) c.args.window.now ≡ Some c.in-Some.v.now) c.self.view_is (version_left t.rows t.blocks c.args.window.now c.in-Some.v.now c.in-Some.ensures)

pub returns-in-None : goal.returns-in-None
returns-in-None g c =
    let t = c.self.inside in
    subst (λ (o : Option Held). MatchOption c.held-in-None.result (o ≡ None) (λ v. o ≡ Some v.now))
    (sym (version_right t.rows t.blocks c.args.window.now c.in-None.ensures) ∙ ap (λ (x : Table). version_of (all_entries x) c.args.window.now) c.self.view_is) c.held-in-None.ensures
