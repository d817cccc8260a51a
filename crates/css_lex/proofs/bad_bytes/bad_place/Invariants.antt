use Rattle.std.proofs.Common.{◌≡◌, length, drop}
use Rattle.css_lexemes.specs.Rising.{AreBetween}
use Rattle.css_lex.specs.Refusals.{bad_bytes, unended_comments}
use Rattle.css_lex.proofs.bad_bytes.bad_place.Given as goal

abbrev pub invariant-loop-source : goal.invariant-loop-source
invariant-loop-source l = record {
  bytes : bad_bytes l.line ≡ bad_bytes (drop l.source-index l.line);
  comments : unended_comments l.text l.line ≡ unended_comments l.text (drop l.source-index l.line);
  between : AreBetween 0 (length l.text) (drop l.source-index l.line);
}
