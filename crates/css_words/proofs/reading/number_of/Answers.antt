use Rattle.std.proofs.Common.{◌∙◌, sym, subst, ◌≤◌, ℕ}
use Rattle.css_words.specs.KeptWords.{pairs}
use Rattle.css_words.specs.Options.{kind_of}
use Rattle.css_words.specs.Reading.{most_of}
use Rattle.css_words.proofs.Readings.{number_there, number_bound, number_fits}
use Rattle.css_words.proofs.reading.number_of.Goals as goal

pub value_of_digits-requires-clause-digits : goal.value_of_digits-requires-clause-digits
value_of_digits-requires-clause-digits c =
    (number_there c.args.option (pairs c.args.given.now) c.in-Number.least c.in-Number.most c.in-Number.default c.in-Some.digits.now
    (sym c.row.ensures.kind ∙ c.in-Number.is) c.requires c.in-Some.ensures).digits

pub value_of_digits-requires-clause-fits : goal.value_of_digits-requires-clause-fits
value_of_digits-requires-clause-fits c =
    let kind = sym c.row.ensures.kind ∙ c.in-Number.is in
    let number = number_there c.args.option (pairs c.args.given.now) c.in-Number.least c.in-Number.most c.in-Number.default c.in-Some.digits.now kind c.requires c.in-Some.ensures in
    number_fits c.args.option c.in-Some.digits.now (number_bound c.args.option c.in-Number.least c.in-Number.most c.in-Number.default c.in-Some.digits.now kind number)

pub returns-in-Some-clause-bound : goal.returns-in-Some-clause-bound
returns-in-Some-clause-bound c =
    let kind = sym c.row.ensures.kind ∙ c.in-Number.is in
    let number = number_there c.args.option (pairs c.args.given.now) c.in-Number.least c.in-Number.most c.in-Number.default c.in-Some.digits.now kind c.requires c.in-Some.ensures in
    subst (λ (n : ℕ). n ≤ most_of (kind_of c.args.option)) (sym c.value_of_digits.ensures)
    (number_bound c.args.option c.in-Number.least c.in-Number.most c.in-Number.default c.in-Some.digits.now kind number)
