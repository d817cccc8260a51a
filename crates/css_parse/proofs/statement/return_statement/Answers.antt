use Rattle.css_parse.specs.Readings as reads
use Rattle.css_parse.proofs.statement.return_statement.Goals as goal

pub returns-clause-ok : goal.returns-clause-ok
returns-clause-ok c = reads.Return c.in_ok-value.ensures.ok
