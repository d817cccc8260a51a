use Rattle.std.proofs.Common.{◌≡◌, ◌+◌, length, None}
use Rattle.css_base.specs.Tokens.{lexemes}
use Rattle.css_pexpr.specs.Reading.{start, longest_from}
use Rattle.css_pexpr.specs.Stacks.{stack}
use Rattle.css_pexpr.specs.States.{state_of}
use Rattle.css_pexpr.proofs.scan.longest.Given as goal

abbrev pub invariant-loop-token : goal.invariant-loop-token
invariant-loop-token l = record {
  same : longest_from l.manner (state_of (stack l.frames) l.state) l.count l.best (lexemes l.rest) ≡ longest_from l.manner start 0 None (lexemes l.tokens);
  counted : l.count + length l.rest ≡ length l.tokens;
}

abbrev pub decreases-loop-token : goal.decreases-loop-token
decreases-loop-token l = length l.rest
