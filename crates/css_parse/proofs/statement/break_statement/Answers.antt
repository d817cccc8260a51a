use Rattle.css_parse.specs.Readings as reads
use Rattle.css_parse.proofs.NoStatement.{no_break}
use Rattle.css_parse.proofs.statement.break_statement.Goals as goal

pub returns-in-Some-clause-ok : goal.returns-in-Some-clause-ok
returns-in-Some-clause-ok c = λ levels. reads.Break c.in-Some.ensures.found

pub returns-in-None-clause-not_spelled : goal.returns-in-None-clause-not_spelled
returns-in-None-clause-not_spelled c = λ why levels s rest r. no_break c.in-None.ensures.none r
