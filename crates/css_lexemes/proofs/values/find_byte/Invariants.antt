use Rattle.std.proofs.Common.{◌≡◌, drop}
use Rattle.css_lexemes.specs.Values.{simple_escape}
use Rattle.css_lexemes.proofs.values.find_byte.Given as goal

abbrev pub invariant-loop-entry : goal.invariant-loop-entry
invariant-loop-entry l = simple_escape l.table l.byte ≡ simple_escape (drop l.entry-index l.table) l.byte
