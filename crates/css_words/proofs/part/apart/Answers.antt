use Rattle.std.proofs.Common.{◌∙◌, ◌∷◌, refl, sym, ap}
use Rattle.css_words.specs.Options.{Text}
use Rattle.css_words.specs.KeptWords.{texts}
use Rattle.css_words.proofs.FirstItems.{found_flag, found_apart}
use Rattle.css_words.proofs.part.apart.Goals as goal

pub returns-then-is_flag-clause-found : goal.returns-then-is_flag-clause-found
returns-then-is_flag-clause-found c =
    found_flag c.in-Some.option c.args.name.now (texts c.args.others.now) _ c.in-Some.ensures (sym c.is_flag.ensures ∙ c.if-is_flag.true) refl refl

pub returns-then-is_plain-clause-found : goal.returns-then-is_plain-clause-found
returns-then-is_plain-clause-found c =
    found_apart c.in-Some.option c.args.name.now c.as_str-value.result.now (texts c.args.others.now) (texts c.in-Some-split_first.rest.now) _ c.in-Some.ensures
    (sym c.is_flag.ensures ∙ c.if-is_flag.false) (c.is_plain.ensures.0 c.if-is_plain.true)
    (ap texts c.in-Some-split_first.ensures.cases.0 ∙ ap (λ (v : Text). v ∷ texts c.in-Some-split_first.rest.now) (sym c.as_str-value.ensures.value)) refl refl
