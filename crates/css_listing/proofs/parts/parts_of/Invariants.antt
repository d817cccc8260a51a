use Rattle.std.proofs.Common.{◌≡◌, ◌++◌, List, Some, map, drop}
use Rattle.css_isa.specs.declared.code.ArgShape.{ArgShape}
use Rattle.css_traces.specs.Words.{◌>>=◌}
use Rattle.css_listing.specs.Words.{parts_of}
use Rattle.css_listing.proofs.parts.parts_of.Given as goal

-- those so far, and what the words that are left give
abbrev pub invariant-loop-word : goal.invariant-loop-word
invariant-loop-word l =
    (parts_of (map (λ w. w.now) (drop l.word-index l.words)) >>= λ (ps : List ArgShape). Some (l.parts.items ++ ps)) ≡ parts_of (map (λ w. w.now) l.words)
