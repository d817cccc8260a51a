use Rattle.std.proofs.Common.{◌<◌, ◌&&◌, length, sym, ap, ◌∙◌, arith}
use Rattle.std.proofs.lemmas.Option.{slice_get_within}
use Rattle.css_objects.proofs.Tables.{part_inside, part_entry, met_entry}
use Rattle.css_objects.proofs.part.Part.is_met.Goals as goal

pub index-requires : goal.index-requires
index-requires c =
    let p = c.self.inside in
    let inside = part_inside p.windows p.versions.items c.args.self.now c.self.invariant c.self.view_is c.args.place c.args.window.now c.requires.place in
    omega (arith, slice_get_within p.windows c.args.place c.args.window.now inside, c.self.invariant)

pub returns-then-written : goal.returns-then-written
returns-then-written c e at =
    let p = c.self.inside in
    let inside = part_inside p.windows p.versions.items c.args.self.now c.self.invariant c.self.view_is c.args.place c.args.window.now c.requires.place in
    let within : c.args.place < length p.versions.items = omega (arith, slice_get_within p.windows c.args.place c.args.window.now inside, c.self.invariant) in
    met_entry c.args.self.now c.args.place c.args.window.now c.index.result.now e c.args.from c.args.to c.has_maker-written.result c.meets-met.result c.meets-met.result
    (part_entry p.windows p.versions.items c.args.self.now c.self.invariant c.self.view_is c.args.place c.args.window.now c.index.result.now c.requires.place within c.index.ensures)
    at c.has_maker-written.ensures c.meets-met.ensures (sym (ap (λ b. b && c.meets-met.result) c.if-written.true))

pub returns-else-written : goal.returns-else-written
returns-else-written c e at =
    let p = c.self.inside in
    let inside = part_inside p.windows p.versions.items c.args.self.now c.self.invariant c.self.view_is c.args.place c.args.window.now c.requires.place in
    let within : c.args.place < length p.versions.items = omega (arith, slice_get_within p.windows c.args.place c.args.window.now inside, c.self.invariant) in
    met_entry c.args.self.now c.args.place c.args.window.now c.index.result.now e c.args.from c.args.to c.has_maker-written.result c.meets-met.result c.has_maker-written.result
    (part_entry p.windows p.versions.items c.args.self.now c.self.invariant c.self.view_is c.args.place c.args.window.now c.index.result.now c.requires.place within c.index.ensures)
    at c.has_maker-written.ensures c.meets-met.ensures (c.if-written.false ∙ sym (ap (λ b. b && c.meets-met.result) c.if-written.false))
