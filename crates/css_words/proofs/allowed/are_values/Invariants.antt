use Rattle.std.proofs.Common.{take}
use Rattle.std.specs.Prelude.{All}
use Rattle.css_words.specs.Options.{kind_of}
use Rattle.css_words.specs.Reading.{IsValue}
use Rattle.css_words.proofs.allowed.are_values.Given as goal

-- those so far have a value of their kind
abbrev pub invariant-loop-one : goal.invariant-loop-one
invariant-loop-one l = All (λ g. IsValue (kind_of g.option) g.value.now) (take l.one-index l.given)
