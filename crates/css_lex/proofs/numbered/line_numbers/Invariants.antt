use Rattle.std.proofs.Common.{◌≡◌, ℕ, ◌<◌, length, slice_index}
use Rattle.css_lex.specs.Spelling.{line_at}
use Rattle.css_lex.proofs.numbered.line_numbers.Given as goal

abbrev pub invariant-loop-byte : goal.invariant-loop-byte
invariant-loop-byte l = record {
  number : l.number ≡ line_at l.text l.byte-index;
  whole : length l.numbers.items ≡ l.byte-index;
  each : (place : ℕ) → place < l.byte-index → slice_index l.numbers.items place ≡ line_at l.text place;
}
