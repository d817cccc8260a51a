use Rattle.css_traces.proofs.Numerals.{value_more, value_over}
use Rattle.css_listing.proofs.numbers.value_of.Goals as goal

pub returns-in_default : goal.returns-in_default
returns-in_default c = value_over c.args.digits.now c.loop-digit.digit-index c.loop-digit.value c.loop-digit-test.true c.loop-digit.invariant c.in_default.ensures

pub loop-digit-preserved : goal.loop-digit-preserved
loop-digit-preserved c =
    value_more c.args.digits.now c.loop-digit.digit-index c.loop-digit.value c.in-Some.more c.loop-digit-test.true c.loop-digit.invariant c.in-Some.ensures
