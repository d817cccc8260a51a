use Rattle.std.proofs.Common.{◌≡◌, length}
use Rattle.css_base.specs.Tokens.{lexemes}
use Rattle.css_pexpr.specs.Reading.{start, built}
use Rattle.css_pexpr.specs.Stacks.{stack}
use Rattle.css_pexpr.specs.States.{state_of}
use Rattle.css_pexpr.proofs.scan.build.Given as goal

abbrev pub invariant-loop-token : goal.invariant-loop-token
invariant-loop-token l = built l.manner (state_of (stack l.frames) l.state) (lexemes l.rest) ≡ built l.manner start (lexemes l.tokens)

abbrev pub decreases-loop-token : goal.decreases-loop-token
decreases-loop-token l = length l.rest
