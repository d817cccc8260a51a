use Rattle.std.proofs.Common.{sym, ◌∙◌}
use Rattle.css_type_table.specs.Flat.{ctype}
use Rattle.css_type_table.proofs.Growing.{too_long}
use Rattle.css_type_table.proofs.table.TypeTable.are_same.Goals as goal

pub returns-in_default : goal.returns-in_default
returns-in_default c =
    sym (too_long (ctype c.args.self.now) c.args.all.now c.loop-a.a-index c.loop-a.rest.now c.loop-a-test.true c.in_default.ensures.cases) ∙ c.loop-a.invariant
