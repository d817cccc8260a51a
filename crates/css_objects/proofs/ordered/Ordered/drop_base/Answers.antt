use Rattle.std.proofs.Common.{sym, ◌∙◌}
use Rattle.css_objects.proofs.Keeping.{dropped, not_there}
use Rattle.css_objects.proofs.ordered.Ordered.drop_base.Goals as goal

pub returns-in-Some-clause-rest : goal.returns-in-Some-clause-rest
returns-in-Some-clause-rest g c =
    c.remove.ensures.rest
    ∙ sym (dropped c.args.self.now c.args.base c.in-Some.f.place c.in-Some.f.window c.find.ensures.ascends c.in-Some.ensures.found.stands c.in-Some.ensures.found.same)

pub returns-in-None-clause-rest : goal.returns-in-None-clause-rest
returns-in-None-clause-rest g c = sym (not_there c.args.self.now c.args.base c.in-None.ensures.found)
