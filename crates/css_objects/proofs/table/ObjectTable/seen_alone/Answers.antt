use Rattle.std.proofs.Common.{subst}
use Rattle.css_objects.specs.Found.{NoneShares, IsLastSharing}
use Rattle.css_objects.specs.Table.{Table, IsTable, windows}
use Rattle.css_objects.specs.Seen.{IsSeen}
use Rattle.css_objects.proofs.Tables.{nothing_answer}
use Rattle.css_objects.proofs.Probes.{probed_block, none_is_below}
use Rattle.css_objects.proofs.table.ObjectTable.seen_alone.Goals as goal

pub returns-in-None : goal.returns-in-None
returns-in-None c =
    let t = c.args.self.now in
    let none : NoneShares (windows t.blocks) c.args.window.now = rw c.in-None.is at c.requires.block in
    nothing_answer t.rows t.blocks c.args.window.now c.requires.row none

pub returns-in-Some : goal.returns-in-Some
returns-in-Some c =
    let t = c.args.self.now in
    let p = c.self.inside in
    let is : IsTable t.rows t.blocks p.written = subst (λ (x : Table). IsTable x.rows x.blocks p.written) c.self.view_is c.self.invariant in
    let seen : IsSeen t.blocks c.in-Some.b c.args.window.now c.seen.result = subst (λ (x : Table). IsSeen x.blocks c.in-Some.b c.args.window.now c.seen.result) c.self.view_is c.seen.ensures in
    let last : IsLastSharing (windows t.blocks) c.args.window.now c.in-Some.b = rw c.in-Some.is at c.requires.block in
    probed_block t.rows t.blocks p.written is c.args.window.now c.in-Some.b last
    (none_is_below t.rows t.blocks p.written is c.args.window.now t.rows c.in-Some.b.window.base c.requires.row) c.seen.result seen
