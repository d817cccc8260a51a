use Rattle.std.proofs.Common.{◌≡◌}
use Rattle.css_lexemes.specs.Source.{bytes_of}
use Rattle.css_lex.proofs.TextRead.{IsReadTo}
use Rattle.css_lex.proofs.lexing.read_text.Given as goal

abbrev pub invariant-loop-source : goal.invariant-loop-source
invariant-loop-source l = record {
  same : l.bytes.items ≡ bytes_of l.line.items;
  read : IsReadTo l.numbered.text.now l.shown l.brought l.line.items l.source-index;
}
