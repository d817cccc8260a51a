use Rattle.std.proofs.Common.{◌≡◌, ◌++◌, drop}
use Rattle.std.specs.Option.{option_map}
use Rattle.css_yard.specs.Kept.{values_at}
use Rattle.css_yard.proofs.done.share_values.Given as goal

-- the values so far, and those of what is left, are the values of all
abbrev pub invariant-loop-version : goal.invariant-loop-version
invariant-loop-version l =
    option_map (λ rest. l.values.items ++ rest) (values_at l.tasks l.given (drop l.version-index l.versions)) ≡ values_at l.tasks l.given l.versions
