use Rattle.std.proofs.Common.{arith}
use Rattle.css_objects.proofs.Tables.{part_length}
use Rattle.css_objects.proofs.part.Part.len.Goals as goal

pub returns : goal.returns
returns c =
    let p = c.self.inside in
    omega (arith, part_length p.windows p.versions.items c.args.self.now c.self.invariant c.self.view_is, c.self.invariant, c.len.ensures)
