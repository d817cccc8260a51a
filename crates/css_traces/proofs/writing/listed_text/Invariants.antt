use Rattle.std.proofs.Common.{◌≡◌, ◌∷◌, ◌++◌, take}
use Rattle.std.specs.List.{flat_map}
use Rattle.std.specs.Fmt.{decimal}
use Rattle.css_traces.proofs.writing.listed_text.Given as goal

abbrev pub invariant-loop-number : goal.invariant-loop-number
invariant-loop-number l =
    l.text.items ≡ l.fn.head ++ 32 ∷ (decimal l.fn.worker ++ flat_map (λ n. 32 ∷ decimal n) (take l.number-index l.numbers))
