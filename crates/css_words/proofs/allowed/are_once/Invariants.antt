use Rattle.std.proofs.Common.{◌↔◌, drop}
use Rattle.css_words.specs.KeptWords.{pairs}
use Rattle.css_words.specs.Reading.{AreOnce}
use Rattle.css_words.proofs.allowed.are_once.Given as goal

-- none is given twice just where none of those that are left is
abbrev pub invariant-loop-i : goal.invariant-loop-i
invariant-loop-i l = AreOnce (pairs (drop l.i l.given)) ↔ AreOnce (pairs l.given)
