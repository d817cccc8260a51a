use Rattle.std.proofs.Common.{◌≢◌, take}
use Rattle.std.specs.Prelude.{All}
use Rattle.css_words.specs.Options.{option_name}
use Rattle.css_words.proofs.options.option_named.Given as goal

-- none of the options so far has the name
abbrev pub invariant-loop-option : goal.invariant-loop-option
invariant-loop-option l = All (λ option. option_name option ≢ l.name) (take l.option-index l.option-items)
