use Rattle.std.proofs.Common.{take}
use Rattle.std.specs.Prelude.{All}
use Rattle.css_words.specs.Reading.{IsOptionOf}
use Rattle.css_words.proofs.allowed.are_options_of.Given as goal

-- those so far belong to the command
abbrev pub invariant-loop-one : goal.invariant-loop-one
invariant-loop-one l = All (λ g. IsOptionOf l.built l.command g.option) (take l.one-index l.given)
