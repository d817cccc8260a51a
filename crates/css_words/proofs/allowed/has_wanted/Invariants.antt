use Rattle.std.proofs.Common.{take}
use Rattle.std.specs.Prelude.{All, IsSome}
use Rattle.css_words.specs.KeptWords.{pairs}
use Rattle.css_words.specs.Reading.{Wants, value_of}
use Rattle.css_words.proofs.allowed.has_wanted.Given as goal

-- of those so far what is wanted is given
abbrev pub invariant-loop-option : goal.invariant-loop-option
invariant-loop-option l = All (λ option. Wants l.command option → IsSome (value_of option (pairs l.given))) (take l.option-index l.option-items)
