use Rattle.std.proofs.Common.{◌≡◌, ◌++◌, List, ℕ, Some, map, drop}
use Rattle.css_traces.specs.Words.{◌>>=◌, numbers_of}
use Rattle.css_traces.proofs.words.numbers_of.Given as goal

-- those so far, and what the words that are left give
abbrev pub invariant-loop-word : goal.invariant-loop-word
invariant-loop-word l =
    (numbers_of (map (λ w. w.now) (drop l.word-index l.words)) >>= λ (ns : List ℕ). Some (l.numbers.items ++ ns)) ≡ numbers_of (map (λ w. w.now) l.words)
