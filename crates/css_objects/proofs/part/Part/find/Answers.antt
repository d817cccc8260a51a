use Rattle.std.proofs.Common.{List, subst, ℕ, MatchOption}
use Rattle.css_record.specs.declared.window.Window.{Window}
use Rattle.css_objects.specs.Ordered.{HasNone, IsAscending, IsOfBase, IsSearch}
use Rattle.css_objects.proofs.Tables.{part_windows, part_length}
use Rattle.css_objects.proofs.part.Part.find.Goals as goal

pub returns-clause-found : goal.returns-clause-found
returns-clause-found g c =
    let p = c.self.inside in
    subst (λ (ws : List Window). MatchOption c.find.result (HasNone ws c.args.base) (IsOfBase ws c.args.base))
    (part_windows p.windows p.versions.items c.args.self.now c.self.invariant c.self.view_is) c.find.ensures.found

pub returns-clause-ascends : goal.returns-clause-ascends
returns-clause-ascends g c =
    let p = c.self.inside in
    subst IsAscending (part_windows p.windows p.versions.items c.args.self.now c.self.invariant c.self.view_is) c.find.ensures.ascends

pub returns-clause-cost : goal.returns-clause-cost
returns-clause-cost g c =
    let p = c.self.inside in
    subst (λ (n : ℕ). IsSearch n c.args.steps.now c.find.new.steps) (part_length p.windows p.versions.items c.args.self.now c.self.invariant c.self.view_is) c.find.ensures.cost
