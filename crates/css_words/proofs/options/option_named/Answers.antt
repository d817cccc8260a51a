use Rattle.std.proofs.Common.{◌≡◌, ◌≢◌, ◌∙◌, ℕ, take, sym, subst, arith, All, true≢false}
use Rattle.std.proofs.lemmas.Slice.Eq.{bytes_eq-Decides}
use Rattle.std.proofs.lemmas.List.Elements.{All-more}
use Rattle.css_words.specs.declared.options.OptionName.{OptionName}
use Rattle.css_words.specs.declared.options.OptionName.TheVariants.{Memory}
use Rattle.css_words.specs.Options.{option_name}
use Rattle.css_words.proofs.Names.{all_options, each_option}
use Rattle.css_words.proofs.options.option_named.Goals as goal

pub loop-option-preserved : goal.loop-option-preserved
loop-option-preserved c =
    All-more (λ (option : OptionName). option_name option ≢ c.args.name.now) all_options c.loop-option.option-index Memory c.loop-option-test.true c.loop-option.invariant
    (λ e. true≢false (sym (c.eq.ensures ∙ (bytes_eq-Decides _ _).1 (c.row.ensures.name ∙ e)) ∙ c.if-eq.false))

pub returns : goal.returns
returns c =
    let done : c.loop-option.option-index ≡ 15 = omega arith in
    each_option (λ (option : OptionName). option_name option ≢ c.args.name.now) (subst (λ (n : ℕ). All (λ (option : OptionName). option_name option ≢ c.args.name.now) (take n all_options)) done c.loop-option.invariant)
