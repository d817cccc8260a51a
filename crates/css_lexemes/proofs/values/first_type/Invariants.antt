use Rattle.std.proofs.Common.{◌≡◌, drop}
use Rattle.css_lexemes.specs.Values.{first_type}
use Rattle.css_lexemes.proofs.values.first_type.Given as goal

abbrev pub invariant-loop-candidate : goal.invariant-loop-candidate
invariant-loop-candidate l = first_type l.decimal l.suffix l.value l.candidates ≡ first_type l.decimal l.suffix l.value (drop l.candidate-index l.candidates)
