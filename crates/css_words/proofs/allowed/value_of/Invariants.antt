use Rattle.std.proofs.Common.{◌≡◌, drop}
use Rattle.css_words.specs.KeptWords.{pairs}
use Rattle.css_words.specs.Reading.{value_of}
use Rattle.css_words.proofs.allowed.value_of.Given as goal

-- the value is that among those that are left
abbrev pub invariant-loop-one : goal.invariant-loop-one
invariant-loop-one l = value_of l.option (pairs (drop l.one-index l.given)) ≡ value_of l.option (pairs l.given)
