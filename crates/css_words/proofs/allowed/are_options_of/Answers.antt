use Rattle.std.proofs.Common.{◌∙◌, List, All, refl, sym, subst, true≢false}
use Rattle.std.proofs.lemmas.List.{take_all}
use Rattle.std.proofs.lemmas.List.Elements.{All-more}
use Rattle.css_words.specs.declared.part.Given.{Given as GivenOption}
use Rattle.css_words.specs.Reading.{IsOptionOf}
use Rattle.css_words.proofs.Pairs.{all_pairs, not_all}
use Rattle.css_words.proofs.allowed.are_options_of.Goals as goal

pub returns-then-not-is_option_of : goal.returns-then-not-is_option_of
returns-then-not-is_option_of c = (
  λ e. absurd (true≢false (sym e)),
  λ h. absurd (not_all (λ g. IsOptionOf c.args.built.now c.args.command g.0) c.args.given.now c.loop-one.one-index _ c.loop-one-test.true (λ p. true≢false (sym (c.is_option_of.ensures.1 p) ∙ c.if-not-is_option_of.true)) h),
)

pub loop-one-preserved : goal.loop-one-preserved
loop-one-preserved c =
    All-more (λ g. IsOptionOf c.args.built.now c.args.command g.option) c.args.given.now c.loop-one.one-index _ c.loop-one-test.true c.loop-one.invariant (c.is_option_of.ensures.0 c.if-not-is_option_of.false)

pub returns : goal.returns
returns c = (
  λ _. all_pairs (λ g. IsOptionOf c.args.built.now c.args.command g.0) c.args.given.now
      (subst (λ (gs : List GivenOption). All (λ g. IsOptionOf c.args.built.now c.args.command g.option) gs) (take_all c.loop-one.one-index c.args.given.now c.loop-one-test.false) c.loop-one.invariant),
  λ _. refl,
)
