use Rattle.std.proofs.Common.{◌≡◌, ◌≤◌, ◌+◌, ◌*◌, length}
use Rattle.css_base.specs.Tokens.{lexemes}
use Rattle.css_parse.specs.Readings.{ReadsEntries}
use Rattle.css_parse.proofs.Gathering.{Goes}
use Rattle.css_parse.proofs.AsLists.{joined_entries}
use Rattle.css_parse.proofs.statement.+statements.Given as goal

abbrev pub decreases-statement : goal.decreases-statement
decreases-statement l = 5 * length l.tokens.now

abbrev pub decreases-boxed_statement : goal.decreases-boxed_statement
decreases-boxed_statement l = 5 * length l.tokens.now + 1

abbrev pub decreases-entry : goal.decreases-entry
decreases-entry l = 5 * length l.tokens.now + 1

abbrev pub decreases-entries : goal.decreases-entries
decreases-entries l = 5 * length l.tokens.now + 2

abbrev pub decreases-block : goal.decreases-block
decreases-block l = 5 * length l.tokens.now + 3

abbrev pub decreases-if_statement : goal.decreases-if_statement
decreases-if_statement l = 5 * length l.tokens.now + 3

abbrev pub decreases-while_statement : goal.decreases-while_statement
decreases-while_statement l = 5 * length l.tokens.now + 3

abbrev pub decreases-do_statement : goal.decreases-do_statement
decreases-do_statement l = 5 * length l.tokens.now + 3

abbrev pub decreases-for_statement : goal.decreases-for_statement
decreases-for_statement l = 5 * length l.tokens.now + 3

abbrev pub decreases-formed : goal.decreases-formed
decreases-formed l = 5 * length l.tokens.now + 4

abbrev pub invariant-entries-loop-end : goal.invariant-entries-loop-end
invariant-entries-loop-end l = record {
  goes : Goes (joined_entries l.entries.items) (ReadsEntries l.levels (lexemes l.tokens)) (ReadsEntries l.levels (lexemes l.tokens)) (ReadsEntries l.levels (lexemes l.rest));
  shorter : length l.rest ≤ length l.tokens;
}

abbrev pub decreases-entries-loop-end : goal.decreases-entries-loop-end
decreases-entries-loop-end l = length l.rest
