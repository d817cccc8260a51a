use Rattle.std.proofs.Common.{◌≡◌, take}
use Rattle.css_types.specs.Shapes.{counts}
use Rattle.css_types.specs.Types.{counted}
use Rattle.css_types.proofs.words.counted.Given as goal

abbrev pub invariant-loop-word : goal.invariant-loop-word
invariant-loop-word l = counts l.all ≡ counted (take l.word-index l.words)
