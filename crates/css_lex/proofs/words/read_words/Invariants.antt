use Rattle.std.proofs.Common.{◌-◌, ◌≤◌, length}
use Rattle.css_base.specs.Tokens.{lexemes}
use Rattle.css_lex.proofs.WordsRead.{IsReading}
use Rattle.css_lex.proofs.words.read_words.Given as goal

abbrev pub invariant-loop-from : goal.invariant-loop-from
invariant-loop-from l = record {
  within : l.from ≤ length l.line.bytes.now;
  reading : IsReading l.numbered.text.now l.line.source.now (lexemes l.tokens.items) l.skipped l.skip l.from;
}

abbrev pub decreases-loop-from : goal.decreases-loop-from
decreases-loop-from l = length l.line.bytes.now - l.from
