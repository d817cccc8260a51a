use Rattle.std.proofs.Common.{subst}
use Rattle.css_objects.specs.Table.{Table, IsTable}
use Rattle.css_objects.proofs.Snapshots.{probe_overlap}
use Rattle.std.proofs.Common.{sym}
use Rattle.css_objects.proofs.table.ObjectTable.probe.Goals as goal

pub returns-in-None-clause-partly : goal.returns-in-None-clause-partly
returns-in-None-clause-partly g c =
    let t = c.args.self.now in
    let p = c.self.inside in
    let is : IsTable t.rows t.blocks p.written = subst (λ (x : Table). IsTable x.rows x.blocks p.written) c.self.view_is c.self.invariant in
    sym (probe_overlap t.rows t.blocks p.written is c.args.window c.seen_alone.result c.seen_alone.ensures)

pub returns-in-Some-clause-partly : goal.returns-in-Some-clause-partly
returns-in-Some-clause-partly g c =
    let t = c.args.self.now in
    let p = c.self.inside in
    let is : IsTable t.rows t.blocks p.written = subst (λ (x : Table). IsTable x.rows x.blocks p.written) c.self.view_is c.self.invariant in
    sym (probe_overlap t.rows t.blocks p.written is c.args.window c.seen_beside.result c.seen_beside.ensures)
