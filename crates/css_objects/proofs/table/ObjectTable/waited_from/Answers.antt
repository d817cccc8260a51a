use Rattle.std.proofs.Common.{filter, not, eqb, ap, ◌∙◌}
use Rattle.css_objects.specs.Table.{Table, objects}
use Rattle.css_objects.proofs.Keeping.{table-without, objects-without}
use Rattle.css_objects.proofs.table.ObjectTable.waited_from.Goals as goal

pub invariant_of-self : goal.invariant_of-self
invariant_of-self g c =
    let t = c.self.inside in
    rw (c.drop_base.ensures.rest, c.drop_base-2.ensures.rest, c.drop_base-3.ensures.rest)
    (table-without c.args.base t.rows t.blocks t.written c.self.invariant
    (rw c.drop_base.ensures.rest at c.drop_base.ensures.ascends) (rw c.drop_base-3.ensures.rest at c.drop_base-3.ensures.ascends))

pub returns-clause-objects : goal.returns-clause-objects
returns-clause-objects g c =
    let t = c.self.inside in
    rw (c.drop_base.ensures.rest, c.drop_base-2.ensures.rest)
    (objects-without c.args.base t.rows t.blocks t.written c.self.invariant ∙ ap (λ (x : Table). filter (λ o. not (eqb o.window.base c.args.base)) (objects x)) c.self.view_is)
