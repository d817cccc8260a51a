use Rattle.std.proofs.Common.{◌∙◌, ℕ, List, [], ◌∷◌, ◌++◌, ap}
use Rattle.std.specs.List.{flat_map}
use Rattle.std.specs.Fmt.{decimal}
use Rattle.std.proofs.lemmas.List.{take_all}
use Rattle.css_traces.proofs.Written.{listed}
use Rattle.css_traces.proofs.writing.listed_text.Goals as goal

pub returns : goal.returns
returns c =
    c.in_ok-push.ensures.items
    ∙ ap (λ (bs : List ℕ). bs ++ 10 ∷ [])
    (c.loop-number.invariant
    ∙ ap (λ (ns : List ℕ). c.args.head.now ++ 32 ∷ (decimal c.args.worker ++ flat_map (λ n. 32 ∷ decimal n) ns))
    (take_all c.loop-number.number-index c.args.numbers.now c.loop-number-test.false))
    ∙ listed c.args.head.now (decimal c.args.worker) c.args.numbers.now
