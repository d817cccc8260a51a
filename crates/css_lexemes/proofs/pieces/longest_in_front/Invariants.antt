use Rattle.std.proofs.Common.{◌≡◌, max, map, drop}
use Rattle.css_lexemes.specs.Longest.{longest_of}
use Rattle.css_lexemes.proofs.pieces.longest_in_front.Given as goal

abbrev pub invariant-loop-spelling : goal.invariant-loop-spelling
invariant-loop-spelling l = max l.longest (longest_of (map (λ p. p.now) (drop l.spelling-index l.spellings)) l.text) ≡ longest_of (map (λ p. p.now) l.spellings) l.text
