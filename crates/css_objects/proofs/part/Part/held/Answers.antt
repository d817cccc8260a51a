use Rattle.std.proofs.Common.{◌<◌, length, arith}
use Rattle.std.proofs.lemmas.Option.{slice_get_within}
use Rattle.css_objects.proofs.Tables.{part_inside, part_entry}
use Rattle.css_objects.proofs.Holding.{version_none, version_same, version_other}
use Rattle.css_objects.proofs.part.Part.held.Goals as goal

pub returns-in_err-found : goal.returns-in_err-found
returns-in_err-found g c = rw c.from_residual.ensures (version_none c.args.self.now c.args.window.now c.in_err-found.ensures.found)

pub index-requires : goal.index-requires
index-requires g c =
    let p = c.self.inside in
    let f = c.in_ok-found.found in
    let inside = part_inside p.windows p.versions.items c.args.self.now c.self.invariant c.self.view_is f.place f.window c.in_ok-found.ensures.found.stands in
    omega (arith, slice_get_within p.windows f.place f.window inside, c.self.invariant)

pub returns-then-same : goal.returns-then-same
returns-then-same g c =
    let p = c.self.inside in
    let f = c.in_ok-found.found in
    let inside = part_inside p.windows p.versions.items c.args.self.now c.self.invariant c.self.view_is f.place f.window c.in_ok-found.ensures.found.stands in
    let within : f.place < length p.versions.items = omega (arith, slice_get_within p.windows f.place f.window inside, c.self.invariant) in
    version_same c.args.self.now c.args.window.now f c.in_ok-found.ensures.found c.find.ensures.ascends c.index.result.now
    (part_entry p.windows p.versions.items c.args.self.now c.self.invariant c.self.view_is f.place f.window c.index.result.now c.in_ok-found.ensures.found.stands within c.index.ensures)
    (c.same.ensures.equal c.if-same.true)

pub returns-else-same : goal.returns-else-same
returns-else-same g c =
    version_other c.args.self.now c.args.window.now c.in_ok-found.found c.in_ok-found.ensures.found c.find.ensures.ascends (c.same.ensures.other c.if-same.false)
