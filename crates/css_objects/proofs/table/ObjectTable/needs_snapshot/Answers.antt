use Rattle.std.proofs.Common.{◌≡◌, true, not, length, sym, ap, subst, arith}
use Rattle.std.specs.List.{list_any}
use Rattle.css_semantics.specs.Tasks.{is_same_window}
use Rattle.css_record.specs.Windows.{window}
use Rattle.css_objects.specs.Table.{Table, objects}
use Rattle.css_objects.specs.Found.{TakesAtMost}
use Rattle.css_objects.proofs.Tables.{search_scans, one_search}
use Rattle.css_objects.proofs.Probes.{none_at_base}
use Rattle.css_objects.proofs.Snapshots.{none_of_base, same_row, same_block, more_rows}
use Rattle.css_objects.proofs.table.ObjectTable.needs_snapshot.Goals as goal

pub returns-in-Some-clause-answer : goal.returns-in-Some-clause-answer
returns-in-Some-clause-answer g c =
    let t = c.self.inside in
    subst (λ (x : Table). not c.same.result ≡ not (list_any (λ o. is_same_window (window c.args.window) o.window) (objects x))) c.self.view_is
    (ap not (sym (same_row t.rows t.blocks t.written c.self.invariant c.args.window c.in-Some.f c.same.result c.requires c.in-Some.ensures.found c.same.ensures.equal c.same.ensures.other)))

pub returns-in-Some-clause-cost : goal.returns-in-Some-clause-cost
returns-in-Some-clause-cost g c =
    let t = c.self.inside in
    subst (λ (x : Table). TakesAtMost (length x.rows) (length x.blocks) c.args.window.rows c.args.steps.now c.find.new.steps) c.self.view_is
    (more_rows (length t.rows) (length t.blocks) c.args.window.rows c.args.steps.now c.find.new.steps c.requires.rows
    (one_search (length t.rows) (length t.rows) (length t.blocks) c.args.steps.now c.find.new.steps c.find.new.steps (omega arith) c.find.ensures.cost (omega arith)))

pub returns-in-Some-find-clause-answer : goal.returns-in-Some-find-clause-answer
returns-in-Some-find-clause-answer g c =
    let t = c.self.inside in
    subst (λ (x : Table). not c.same-in-Some-find.result ≡ not (list_any (λ o. is_same_window (window c.args.window) o.window) (objects x))) c.self.view_is
    (ap not (sym (same_block t.rows t.blocks t.written c.self.invariant c.args.window c.in-Some-find.f c.same-in-Some-find.result c.requires c.in-Some-find.ensures.found c.same-in-Some-find.ensures.equal c.same-in-Some-find.ensures.other)))

pub returns-in-Some-find-clause-cost : goal.returns-in-Some-find-clause-cost
returns-in-Some-find-clause-cost g c =
    let t = c.self.inside in
    subst (λ (x : Table). TakesAtMost (length x.rows) (length x.blocks) c.args.window.rows c.args.steps.now c.find-2.new.steps) c.self.view_is
    (more_rows (length t.rows) (length t.blocks) c.args.window.rows c.args.steps.now c.find-2.new.steps c.requires.rows
    (one_search (length t.rows) (length t.rows) (length t.blocks) c.args.steps.now c.find.new.steps c.find-2.new.steps (omega arith) c.find.ensures.cost
    (search_scans (length t.blocks) c.find.new.steps c.find-2.new.steps c.find-2.ensures.cost)))

pub returns-in-None-find-clause-answer : goal.returns-in-None-find-clause-answer
returns-in-None-find-clause-answer g c =
    let t = c.self.inside in
    subst (λ (x : Table). true ≡ not (list_any (λ o. is_same_window (window c.args.window) o.window) (objects x))) c.self.view_is
    (ap not (sym (none_of_base (objects (record { rows = t.rows; blocks = t.blocks })) c.args.window (none_at_base t.rows t.blocks c.args.window.base c.in-None.ensures.found c.in-None-find.ensures.found))))

pub returns-in-None-find-clause-cost : goal.returns-in-None-find-clause-cost
returns-in-None-find-clause-cost g c =
    let t = c.self.inside in
    subst (λ (x : Table). TakesAtMost (length x.rows) (length x.blocks) c.args.window.rows c.args.steps.now c.find-2.new.steps) c.self.view_is
    (more_rows (length t.rows) (length t.blocks) c.args.window.rows c.args.steps.now c.find-2.new.steps c.requires.rows
    (one_search (length t.rows) (length t.rows) (length t.blocks) c.args.steps.now c.find.new.steps c.find-2.new.steps (omega arith) c.find.ensures.cost
    (search_scans (length t.blocks) c.find.new.steps c.find-2.new.steps c.find-2.ensures.cost)))
