use Rattle.std.proofs.Common.{List, subst, MatchOption, arith}
use Rattle.css_record.specs.declared.window.Window.{Window}
use Rattle.css_objects.specs.Found.{NoneShares, IsLastSharing}
use Rattle.css_objects.proofs.Tables.{part_windows, part_length, part_at}
use Rattle.css_objects.proofs.part.Part.last_block.Goals as goal

pub last_sharing_block-requires-clause-blocks : goal.last_sharing_block-requires-clause-blocks
last_sharing_block-requires-clause-blocks g c i w at =
    let p = c.self.inside in
    (c.requires.blocks i w (part_at p.windows p.versions.items c.args.self.now c.self.invariant c.self.view_is i w at)).is_window

pub returns-clause-found : goal.returns-clause-found
returns-clause-found g c =
    let p = c.self.inside in
    subst (λ (ws : List Window). MatchOption c.last_sharing_block.result (NoneShares ws c.args.window.now) (IsLastSharing ws c.args.window.now))
    (part_windows p.windows p.versions.items c.args.self.now c.self.invariant c.self.view_is) c.last_sharing_block.ensures.found

pub returns-clause-cost : goal.returns-clause-cost
returns-clause-cost g c =
    let p = c.self.inside in
    omega (arith, part_length p.windows p.versions.items c.args.self.now c.self.invariant c.self.view_is, c.last_sharing_block.ensures.cost)
