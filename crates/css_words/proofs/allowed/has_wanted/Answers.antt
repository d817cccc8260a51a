use Rattle.std.proofs.Common.{◌≡◌, ℕ, All, take, refl, subst, arith, IsSome}
use Rattle.std.proofs.lemmas.List.Elements.{All-more}
use Rattle.css_words.specs.declared.options.OptionName.{OptionName}
use Rattle.css_words.specs.declared.options.OptionName.TheVariants.{Memory}
use Rattle.css_words.specs.KeptWords.{pairs}
use Rattle.css_words.specs.Reading.{Wants, value_of}
use Rattle.css_words.proofs.Names.{all_options, each_option}
use Rattle.css_words.proofs.allowed.has_wanted.Goals as goal

pub loop-option-preserved : goal.loop-option-preserved
loop-option-preserved c =
    All-more (λ (option : OptionName). Wants c.args.command option → IsSome (value_of option (pairs c.args.given.now))) all_options c.loop-option.option-index Memory
    c.loop-option-test.true c.loop-option.invariant (c.is_there.ensures.0 c.if-not-is_there.false)

pub returns : goal.returns
returns c =
    let P : OptionName → Type 0 = λ option. Wants c.args.command option → IsSome (value_of option (pairs c.args.given.now)) in
    let done : c.loop-option.option-index ≡ 15 = omega arith in
    (λ _. each_option P (subst (λ (n : ℕ). All P (take n all_options)) done c.loop-option.invariant), λ _. refl)
