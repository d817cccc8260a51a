use Rattle.std.proofs.Common.{◌≡◌, ◌<◌, length, ◌∙◌, ap, refl, inr, arith}
use Rattle.std.proofs.lemmas.Bool.Decides.{nat_tests}
use Rattle.css_place.specs.Places.{Store, rounded}
use Rattle.css_place.proofs.Addresses.{fit_not_full}
use Rattle.css_place.proofs.Placing.{placed_more}
use Rattle.css_place.proofs.placer.Placer.place.Goals as goal

pub returns-in_default-clause-full : goal.returns-in_default-clause-full
returns-in_default-clause-full c =
    let none = c.in_default.ensures.none in
    let bytes : c.next_multiple_of-bytes.result ≡ rounded c.args.length =
    c.next_multiple_of-bytes.ensures.value ∙ ap rounded c.from.ensures in (
      λ _. rw (← c.self.view_is, ← bytes, ← c.as_slice.ensures.value) (inr (λ start holds. none start holds.room)),
      λ _. refl,
    )

pub invariant_of-self : goal.invariant_of-self
invariant_of-self c =
    let store : Store = record { size = c.self.inside.size; out = c.self.inside.out.items } in
    let few : length c.self.inside.out.items < 96 = grind (arith, nat_tests) in
    rw c.insert.ensures.items (placed_more store _ c.in-Some.gap c.self.invariant
    (rw c.as_slice.ensures.value at c.in-Some.ensures.found) refl c.next_multiple_of-bytes.ensures.multiple
    (omega arith) few)

pub returns-clause-full : goal.returns-clause-full
returns-clause-full c =
    let few : length c.as_slice.result.now < 96 = grind (arith, nat_tests) in
    let bytes : c.next_multiple_of-bytes.result ≡ rounded c.args.length =
    c.next_multiple_of-bytes.ensures.value ∙ ap rounded c.from.ensures in
    let fit = c.in-Some.ensures.found.first in
    rw (← c.self.view_is, ← bytes, ← c.as_slice.ensures.value)
    (λ wrong. absurd (cc), λ full. absurd (fit_not_full _ _ _ fit few full))
