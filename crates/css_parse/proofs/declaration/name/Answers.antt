use Rattle.css_parse.proofs.declaration.name.Goals as goal

pub returns-in_default-clause-not_spelled : goal.returns-in_default-clause-not_spelled
returns-in_default-clause-not_spelled c = λ why name rest r. c.in_default.ensures.none name rest r.word
