use Rattle.std.proofs.Common.{◌≡◌, ◌∙◌, ℕ, Option, get_or, ap, arith}
use Rattle.std.specs.Option.{unwrap_or}
use Rattle.css_report.proofs.Depths.{most_none, most_of_places, known_bounded}
use Rattle.css_report.proofs.depth.deepest.Goals as goal

pub loop-place-init : goal.loop-place-init
loop-place-init c = record { is = most_none; bounded = omega arith }

pub loop-place-preserved : goal.loop-place-preserved
loop-place-preserved c =
    let depths = c.args.depths.now in
    let places = c.args.places.now in
    let i = c.loop-place.place-index in
    let p = get_or places i 0 in
    let e : c.unwrap_or-depth.result ≡ get_or depths p 0 =
    c.unwrap_or-depth.ensures ∙ ap (λ (o : Option ℕ). unwrap_or o 0) c.copied.ensures ∙ c.get.ensures.lookup.4 (omega arith) 0 in
    record {
      is = rw c.max-most.ensures (most_of_places depths places i c.loop-place.most c.unwrap_or-depth.result c.loop-place-test.true e c.loop-place.invariant.is);
      bounded = omega (arith, c.max-most.ensures, e, known_bounded depths p c.requires.bounded, c.loop-place.invariant.bounded);
    }
