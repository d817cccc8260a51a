use Rattle.std.proofs.Common.{subst, arith}
use Rattle.css_objects.specs.Found.{NoneShares, IsLastSharing}
use Rattle.css_objects.specs.Table.{Table, IsTable, windows}
use Rattle.css_objects.specs.Seen.{IsSeen}
use Rattle.css_objects.proofs.Probes.{probed_row, probed_block, none_is_below, last_is_below}
use Rattle.css_objects.proofs.table.ObjectTable.seen_beside.Goals as goal

pub returns-in-None : goal.returns-in-None
returns-in-None c =
    let t = c.args.self.now in
    let p = c.self.inside in
    let is : IsTable t.rows t.blocks p.written = subst (λ (x : Table). IsTable x.rows x.blocks p.written) c.self.view_is c.self.invariant in
    let seen : IsSeen t.rows c.args.row c.args.window.now c.seen.result = subst (λ (x : Table). IsSeen x.rows c.args.row c.args.window.now c.seen.result) c.self.view_is c.seen.ensures in
    let none : NoneShares (windows t.blocks) c.args.window.now = rw c.in-None.is at c.requires.block in
    probed_row t.rows t.blocks p.written is c.args.window.now c.args.row c.requires.row
    (none_is_below t.rows t.blocks p.written is c.args.window.now t.blocks c.args.row.window.base none) c.seen.result seen

pub returns-then-row-b : goal.returns-then-row-b
returns-then-row-b c =
    let t = c.args.self.now in
    let p = c.self.inside in
    let is : IsTable t.rows t.blocks p.written = subst (λ (x : Table). IsTable x.rows x.blocks p.written) c.self.view_is c.self.invariant in
    let seen : IsSeen t.blocks c.in-Some.b c.args.window.now c.seen-then-row-b.result = subst (λ (x : Table). IsSeen x.blocks c.in-Some.b c.args.window.now c.seen-then-row-b.result) c.self.view_is c.seen-then-row-b.ensures in
    let last : IsLastSharing (windows t.blocks) c.args.window.now c.in-Some.b = rw c.in-Some.is at c.requires.block in
    probed_block t.rows t.blocks p.written is c.args.window.now c.in-Some.b last
    (last_is_below t.rows t.blocks p.written is c.args.window.now t.rows c.args.row c.in-Some.b.window.base c.requires.row (omega arith)) c.seen-then-row-b.result seen

pub returns-else-row-b : goal.returns-else-row-b
returns-else-row-b c =
    let t = c.args.self.now in
    let p = c.self.inside in
    let is : IsTable t.rows t.blocks p.written = subst (λ (x : Table). IsTable x.rows x.blocks p.written) c.self.view_is c.self.invariant in
    let seen : IsSeen t.rows c.args.row c.args.window.now c.seen-else-row-b.result = subst (λ (x : Table). IsSeen x.rows c.args.row c.args.window.now c.seen-else-row-b.result) c.self.view_is c.seen-else-row-b.ensures in
    let last : IsLastSharing (windows t.blocks) c.args.window.now c.in-Some.b = rw c.in-Some.is at c.requires.block in
    probed_row t.rows t.blocks p.written is c.args.window.now c.args.row c.requires.row
    (last_is_below t.rows t.blocks p.written is c.args.window.now t.blocks c.in-Some.b c.args.row.window.base last (omega arith)) c.seen-else-row-b.result seen
