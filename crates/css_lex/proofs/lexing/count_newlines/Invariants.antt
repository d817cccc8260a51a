use Rattle.std.proofs.Common.{◌≡◌, ◌≤◌, take}
use Rattle.css_lexemes.specs.Lines.{newlines}
use Rattle.css_lex.proofs.lexing.count_newlines.Given as goal

abbrev pub invariant-loop-byte : goal.invariant-loop-byte
invariant-loop-byte l = record {
  number : l.number ≡ newlines (take l.byte-index l.bytes);
  few : l.number ≤ l.byte-index;
}
