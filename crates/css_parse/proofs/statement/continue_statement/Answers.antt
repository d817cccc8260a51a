use Rattle.css_parse.specs.Readings as reads
use Rattle.css_parse.proofs.NoStatement.{no_continue}
use Rattle.css_parse.proofs.statement.continue_statement.Goals as goal

pub returns-in-Some-clause-ok : goal.returns-in-Some-clause-ok
returns-in-Some-clause-ok c = λ levels. reads.Continue c.in-Some.ensures.found

pub returns-in-None-clause-not_spelled : goal.returns-in-None-clause-not_spelled
returns-in-None-clause-not_spelled c = λ why levels s rest r. no_continue c.in-None.ensures.none r
