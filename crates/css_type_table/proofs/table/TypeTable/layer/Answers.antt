use Rattle.css_type_table.proofs.table.TypeTable.layer.Goals as goal

pub returns-in-None-clause-within : goal.returns-in-None-clause-within
returns-in-None-clause-within c = c.element_layer.ensures.within c.args.self.now
