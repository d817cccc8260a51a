use Rattle.std.proofs.Common.{◌≡◌, ◌-◌, ◌≤◌, ◌++◌, length, drop}
use Rattle.std.specs.Prelude.{option_map}
use Rattle.css_lexemes.specs.Values.{characters}
use Rattle.css_lexemes.proofs.values.characters.Given as goal

abbrev pub invariant-loop-place : goal.invariant-loop-place
invariant-loop-place l = record {
  within : l.place ≤ length l.body;
  done : characters 0 l.body ≡ option_map (λ v. l.values.items ++ v) (characters 0 (drop l.place l.body));
}

abbrev pub decreases-loop-place : goal.decreases-loop-place
decreases-loop-place l = length l.body - l.place
