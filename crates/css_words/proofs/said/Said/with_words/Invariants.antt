use Rattle.std.proofs.Common.{◌≡◌, ◌++◌, map, take}
use Rattle.css_words.specs.KeptWords.{pairs, texts}
use Rattle.css_words.proofs.said.Said.with_words.Given as goal

-- the options stay, and the words so far stand behind those that were there
abbrev pub invariant-loop-word : goal.invariant-loop-word
invariant-loop-word l = record {
  given : pairs l.self.given.items ≡ pairs l.fn.self.given.items;
  operands : map (λ w. w.now) l.self.operands.items ≡ map (λ w. w.now) l.fn.self.operands.items ++ texts (take l.word-index l.words);
}
