use Rattle.std.proofs.Common.{sym, ◌∙◌}
use Rattle.css_objects.proofs.Judges.{all_fit}
use Rattle.css_objects.proofs.table.ObjectTable.judge.Goals as goal

pub room-requires-clause-fit : goal.room-requires-clause-fit
room-requires-clause-fit g c = all_fit c.args.arguments.now c.requires.elements (sym c.any_unfit.ensures ∙ c.if-any_unfit.false)

pub any_dead-requires-clause-fit : goal.any_dead-requires-clause-fit
any_dead-requires-clause-fit g c = all_fit c.args.arguments.now c.requires.elements (sym c.any_unfit.ensures ∙ c.if-any_unfit.false)

pub overlaps_partly-requires : goal.overlaps_partly-requires
overlaps_partly-requires g c = all_fit c.args.arguments.now c.requires.elements (sym c.any_unfit.ensures ∙ c.if-any_unfit.false)

pub any_alias-requires : goal.any_alias-requires
any_alias-requires g c = all_fit c.args.arguments.now c.requires.elements (sym c.any_unfit.ensures ∙ c.if-any_unfit.false)

pub returns-clause-fit : goal.returns-clause-fit
returns-clause-fit g c = all_fit c.args.arguments.now c.requires.elements (sym c.any_unfit.ensures ∙ c.if-any_unfit.false)
