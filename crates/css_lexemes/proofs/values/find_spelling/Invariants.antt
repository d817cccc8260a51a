use Rattle.std.proofs.Common.{◌≡◌, map, drop}
use Rattle.css_lexemes.specs.Values.{suffix_in}
use Rattle.css_lexemes.proofs.values.find_spelling.Given as goal

abbrev pub invariant-loop-entry : goal.invariant-loop-entry
invariant-loop-entry l = suffix_in (map (λ s. (s.0.now, s.1)) l.table) l.spelling ≡ suffix_in (map (λ s. (s.0.now, s.1)) (drop l.entry-index l.table)) l.spelling
