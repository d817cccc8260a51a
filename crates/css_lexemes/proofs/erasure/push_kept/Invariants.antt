use Rattle.std.proofs.Common.{◌≡◌, ◌++◌, take}
use Rattle.std.specs.Prelude.{filter, ◌==◌}
use Rattle.css_lexemes.proofs.erasure.push_kept.Given as goal

abbrev pub invariant-loop-byte : goal.invariant-loop-byte
invariant-loop-byte l = l.left.items ≡ l.initial.left.items ++ filter (λ b. b == 10) (take l.byte-index l.part)
