use Rattle.std.proofs.Common.{◌∙◌, List, All, refl, sym, subst, true≢false}
use Rattle.std.proofs.lemmas.List.{take_all}
use Rattle.std.proofs.lemmas.List.Elements.{All-more}
use Rattle.css_words.specs.declared.part.Given.{Given as GivenOption}
use Rattle.css_words.specs.Options.{kind_of}
use Rattle.css_words.specs.Reading.{IsValue}
use Rattle.css_words.proofs.Pairs.{all_pairs, not_all}
use Rattle.css_words.proofs.allowed.are_values.Goals as goal

pub returns-then-not-fits : goal.returns-then-not-fits
returns-then-not-fits c = (
  λ e. absurd (true≢false (sym e)),
  λ h. absurd (not_all (λ g. IsValue (kind_of g.0) g.1) c.args.given.now c.loop-one.one-index _ c.loop-one-test.true (λ p. true≢false (sym (c.in_ok-fits.ensures.1 p) ∙ c.if-not-fits.true)) h),
)

pub loop-one-preserved : goal.loop-one-preserved
loop-one-preserved c =
    All-more (λ g. IsValue (kind_of g.option) g.value.now) c.args.given.now c.loop-one.one-index _ c.loop-one-test.true c.loop-one.invariant (c.in_ok-fits.ensures.0 c.if-not-fits.false)

pub returns : goal.returns
returns c = (
  λ _. all_pairs (λ g. IsValue (kind_of g.0) g.1) c.args.given.now
      (subst (λ (gs : List GivenOption). All (λ g. IsValue (kind_of g.option) g.value.now) gs) (take_all c.loop-one.one-index c.args.given.now c.loop-one-test.false) c.loop-one.invariant),
  λ _. refl,
)
