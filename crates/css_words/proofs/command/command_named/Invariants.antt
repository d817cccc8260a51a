use Rattle.std.proofs.Common.{◌≢◌, take}
use Rattle.std.specs.Prelude.{All}
use Rattle.css_words.specs.Options.{command_name}
use Rattle.css_words.proofs.command.command_named.Given as goal

-- none of the commands so far has the name
abbrev pub invariant-loop-command : goal.invariant-loop-command
invariant-loop-command l = All (λ command. command_name command ≢ l.name) (take l.command-index l.command-items)
