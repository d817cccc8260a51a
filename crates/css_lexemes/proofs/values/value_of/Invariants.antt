use Rattle.std.proofs.Common.{◌≡◌, ◌+◌, ◌*◌, drop, fold}
use Rattle.css_lexemes.specs.Values.{value_in, digit_value}
use Rattle.css_lexemes.proofs.values.value_of.Given as goal

abbrev pub invariant-loop-digit : goal.invariant-loop-digit
invariant-loop-digit l = value_in l.base l.digits ≡ fold (λ value b. l.base * value + digit_value b) l.value (drop l.digit-index l.digits)
