use Rattle.std.proofs.Common.{◌≡◌, ◌++◌, List, Some, map, drop}
use Rattle.css_isa.specs.declared.space.Width.{Width}
use Rattle.css_traces.specs.Words.{◌>>=◌}
use Rattle.css_listing.specs.Words.{widths_of}
use Rattle.css_listing.proofs.parts.widths_of.Given as goal

-- those so far, and what the words that are left give
abbrev pub invariant-loop-word : goal.invariant-loop-word
invariant-loop-word l =
    (widths_of (map (λ w. w.now) (drop l.word-index l.words)) >>= λ (ws : List Width). Some (l.widths.items ++ ws)) ≡ widths_of (map (λ w. w.now) l.words)
