use Rattle.std.proofs.Common.{List, sym, subst, ℕ, MatchOption}
use Rattle.css_record.specs.declared.window.Window.{Window}
use Rattle.css_objects.specs.Found.{AreRows, NoneShares, IsLastSharing, TakesAtMost}
use Rattle.css_objects.proofs.Tables.{part_windows, part_length}
use Rattle.css_objects.proofs.part.Part.last_row.Goals as goal

pub last_sharing_row-requires-clause-rows : goal.last_sharing_row-requires-clause-rows
last_sharing_row-requires-clause-rows g c =
    let p = c.self.inside in
    subst AreRows (sym (part_windows p.windows p.versions.items c.args.self.now c.self.invariant c.self.view_is)) c.requires.rows

pub returns-clause-found : goal.returns-clause-found
returns-clause-found g c =
    let p = c.self.inside in
    subst (λ (ws : List Window). MatchOption c.last_sharing_row.result (NoneShares ws c.args.window.now) (IsLastSharing ws c.args.window.now))
    (part_windows p.windows p.versions.items c.args.self.now c.self.invariant c.self.view_is) c.last_sharing_row.ensures.found

pub returns-clause-cost : goal.returns-clause-cost
returns-clause-cost g c =
    let p = c.self.inside in
    subst (λ (n : ℕ). TakesAtMost n 0 c.args.window.now.rows c.args.steps.now c.last_sharing_row.new.steps)
    (part_length p.windows p.versions.items c.args.self.now c.self.invariant c.self.view_is) c.last_sharing_row.ensures.cost
