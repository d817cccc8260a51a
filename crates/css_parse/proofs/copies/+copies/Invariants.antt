use Rattle.std.proofs.Common.{◌≡◌, take}
use Rattle.css_base.specs.Tokens.{lexemes}
use Rattle.css_parse.proofs.copies.+copies.Given as goal

abbrev pub invariant-copied_tokens-loop-token : goal.invariant-copied_tokens-loop-token
invariant-copied_tokens-loop-token l = lexemes l.all.items ≡ take l.token-index (lexemes l.tokens)
