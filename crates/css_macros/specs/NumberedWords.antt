-- A set of words, whose places are the words' numbers.
use Rattle.std.specs.Prelude.{◌≡◌, ℕ, List, ◌++◌, map, Vec}
use Rattle.indexmap.specs.IndexSet.{IndexSet}

abbrev pub words_of : {A S : Type 0} → IndexSet (Vec ℕ A) S → List (List ℕ)
words_of words = map (λ word. word.items) words.keys

-- More words have numbers, and those that had one keep it.
abbrev pub Grows : {A S : Type 0} → IndexSet (Vec ℕ A) S → IndexSet (Vec ℕ A) S → Type 0
Grows old new = (more : List (List ℕ)) × (words_of new ≡ words_of old ++ more)
