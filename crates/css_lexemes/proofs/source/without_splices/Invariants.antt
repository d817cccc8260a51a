use Rattle.std.proofs.Common.{◌≡◌, ◌-◌, ◌≤◌, ◌++◌, length, drop}
use Rattle.css_lexemes.specs.Source.{unspliced}
use Rattle.css_lexemes.proofs.source.without_splices.Given as goal

abbrev pub invariant-loop-place : goal.invariant-loop-place
invariant-loop-place l = record {
  within : l.place ≤ length l.text;
  done : unspliced 0 0 l.text ≡ l.bytes.items ++ unspliced l.place 0 (drop l.place l.text);
}

abbrev pub decreases-loop-place : goal.decreases-loop-place
decreases-loop-place l = length l.text - l.place
