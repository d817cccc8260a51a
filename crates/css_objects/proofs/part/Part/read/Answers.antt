use Rattle.std.proofs.Common.{arith}
use Rattle.css_objects.proofs.Tables.{part_length, part_at}
use Rattle.css_objects.proofs.part.Part.read.Goals as goal

pub at-requires : goal.at-requires
at-requires g c =
    let p = c.self.inside in
    omega (arith, part_length p.windows p.versions.items c.args.self.now c.self.invariant c.self.view_is, c.requires)

pub returns-clause-value : goal.returns-clause-value
returns-clause-value g c =
    let p = c.self.inside in
    part_at p.windows p.versions.items c.args.self.now c.self.invariant c.self.view_is c.args.place c.at.result.now c.at.ensures.value
