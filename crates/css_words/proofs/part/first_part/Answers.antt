use Rattle.std.proofs.Common.{◌∙◌, ◌++◌, Some, codes, refl, ap, lit<}
use Rattle.std.proofs.lemmas.Str.Pattern.{split_parts}
use Rattle.css_words.specs.Options.{Text}
use Rattle.css_words.specs.KeptWords.{texts}
use Rattle.css_words.proofs.Items.{no_equals_by_place}
use Rattle.css_words.proofs.FirstItems.{found_operand, behind_dashes, by_joined, by_apart}
use Rattle.css_words.proofs.part.first_part.Goals as goal

pub returns-then-is_operand-clause-found : goal.returns-then-is_operand-clause-found
returns-then-is_operand-clause-found c =
    found_operand c.args.first.now (texts c.args.others.now) _ (c.is_operand.ensures.0 c.if-is_operand.true) refl refl

pub returns-in-Some-split_once-clause-found : goal.returns-in-Some-split_once-clause-found
returns-in-Some-split_once-clause-found c =
    let dashes = behind_dashes c.args.first.now c.in-Some.body.now c.in-Some.ensures.cases in
    let parts = split_parts 61 c.in-Some.body.now (Some (c.in-Some-split_once.name, c.in-Some-split_once.value)) c.in-Some-split_once.ensures.cases (lit< tt) in
    by_joined (λ f. f.0) (λ f. texts f.1.now) c.args.first.now (texts c.args.others.now) c.joined.result c.in-Some-split_once.name.now c.in-Some-split_once.value.now
    (dashes ∙ ap (λ (b : Text). codes "--" ++ b) parts.0) (no_equals_by_place _ parts.1) c.joined.ensures.found

pub returns-in-None-clause-found : goal.returns-in-None-clause-found
returns-in-None-clause-found c =
    let dashes = behind_dashes c.args.first.now c.in-Some.body.now c.in-Some.ensures.cases in
    let none = split_parts 61 c.in-Some.body.now c.split_once.result c.split_once.ensures.cases (lit< tt) in
    by_apart (λ f. f.0) (λ f. texts f.1.now) c.args.first.now (texts c.args.others.now) c.apart.result c.in-Some.body.now
    dashes (no_equals_by_place _ (rw c.in-None.is at none)) c.apart.ensures.flag c.apart.ensures.valued c.apart.ensures.found
